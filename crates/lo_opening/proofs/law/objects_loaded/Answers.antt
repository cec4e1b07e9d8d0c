use Rattle.lo_opening.proofs.BlockLaws.{size_is, pages_are, page_stored, cut_is, deeds_are}
use Rattle.lo_opening.proofs.law.objects_loaded.Goals as goal

pub returns-clause-size : goal.returns-clause-size
returns-clause-size c = λ held o is. size_is o.oid o.size o.stored is.stored

pub returns-clause-pages : goal.returns-clause-pages
returns-clause-pages c = λ held o is. pages_are o.oid o.size o.stored is.stored

pub returns-clause-bytes : goal.returns-clause-bytes
returns-clause-bytes c = λ held o is. page_stored o.oid o.size o.stored is.stored

pub returns-clause-cut : goal.returns-clause-cut
returns-clause-cut c = λ held o is. cut_is o.oid o.size o.stored is.stored

pub returns-clause-deeds : goal.returns-clause-deeds
returns-clause-deeds c = λ held o is. deeds_are o.oid o.size o.stored is.stored
