use Rattle.std.proofs.Common.{[], sym, subst, ◌∙◌, arith}
use Rattle.row_versions.proofs.Benching.{whole_none}
use Rattle.row_versions.specs.Calls.{Commits}
use Rattle.xact_core.specs.Ends.{Ends, commit_at}
use Rattle.lo_restore.specs.Objects.{AreOpened}
use Rattle.lo_restore.proofs.SampleObjects.{fresh_pages, objects_opened, reads_committed}
use Rattle.lo_restore.proofs.TablesBegin.{alone_begun}
use Rattle.lo_restore.proofs.tests.objects.saved_again.Goals as goal

pub restore_objects-requires : goal.restore_objects-requires
restore_objects-requires c =
    let x = c.in_ok-core.core.xacts in
    let opens = c.in_ok-core.ensures in
    let made = c.in_ok-pages.ensures in
    record {
      «open» = (alone_begun c.args.s x opens).begun;
      whole = whole_none x opens.held;
      goes = made.goes x;
      fresh = fresh_pages x c.args.s c.in_ok-pages.pages (made.stand x);
      rules = subst AreOpened (sym (c.items.ensures ∙ c.requires)) objects_opened;
    }

pub commit-requires : goal.commit-requires
commit-requires c = rw c.in_ok-restore_objects.ensures.core (alone_begun c.args.s c.in_ok-core.core.xacts c.in_ok-core.ensures).begun

pub saved_objects-requires : goal.saved_objects-requires
saved_objects-requires c =
    let x = c.in_ok-core.core.xacts in
    let opens = c.in_ok-core.ensures in
    let done = c.in_ok-restore_objects.ensures in
    let ends : Ends (commit_at c.args.s x.clock) c.args.s 0 x c.commit.new.self = rw done.core at c.commit.ensures.ends in
    let commits : Commits c.args.s x c.commit.new.self = record { some = (alone_begun c.args.s x opens).begun; whole = whole_none x opens.held; ends = ends } in
    let kept = c.committed-snap.ensures.kept in
    record {
      kept = kept;
      reads = reads_committed c.args.s x c.commit.new.self c.restore_objects.new.pages _ c.committed-snap.result commits (done.ok.stand [] (c.in_ok-pages.ensures.stand x)) kept;
      few = omega arith;
    }
