use Rattle.lo_pages.proofs.Beginning.{empty_stand, empty_go}
use Rattle.lo_pages.proofs.pages.Pages.new.Goals as goal

pub returns-clause-stand : goal.returns-clause-stand
returns-clause-stand c x = empty_stand x _ c.in_ok-new.ensures.empty c.in_ok-new-2.ensures.empty c.in_ok-new-3.ensures.empty

pub returns-clause-goes : goal.returns-clause-goes
returns-clause-goes c x = empty_go x _ c.in_ok-new.ensures.empty c.in_ok-new-2.ensures.empty c.in_ok-new-3.ensures.empty (c.in_ok-new.ensures.goes x) (c.in_ok-new-2.ensures.goes x) (c.in_ok-new-3.ensures.goes x)
