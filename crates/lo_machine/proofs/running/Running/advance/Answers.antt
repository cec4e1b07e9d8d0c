use Rattle.std.proofs.Common.{◌≡◌, ℕ, ◌+◌, ◌<◌, get_or, length, set, Some, List, refl, ap, sym, ◌∙◌, arith, rules, subst}
use Rattle.std.specs.Prelude.{slice_get, IsSome}
use Rattle.std.specs.Vec.{with_item}
use Rattle.std.proofs.lemmas.List.{get_or_default}
use Rattle.std.proofs.lemmas.Option.{slice_get_read}
use Rattle.lo_base.specs.declared.request.Request.{Request}
use Rattle.lo_machine.specs.Program.{program_of}
use Rattle.lo_machine.specs.Replay.{Play, HasLine, moment_of}
use Rattle.lo_machine.specs.Run.{next_line}
use Rattle.lo_machine.specs.Running.{play_of}
use Rattle.lo_machine.proofs.ReplayedRuns.{AdvancedBy, advanced, stayed, advances, slice_get_some_within}
use Rattle.lo_machine.proofs.SweepLaws.{keeps_law}
use Rattle.lo_machine.proofs.running.Running.advance.Goals as goal

pub invariant_of-self-in_err-reply : goal.invariant_of-self-in_err-reply
invariant_of-self-in_err-reply c = stayed c.self.inside _ c.self.invariant record {
  opening = search rules;
  programs = search rules;
  schedule = search rules;
  replies = search rules;
  lines_done = search rules;
  sound = c.in_err-reply.ensures.sound;
  stands = c.in_err-reply.ensures.serves.err;
}

-- what the advance changed, in the words of the lemmas
changed : (c : goal.After-self-1) → AdvancedBy c.args.s c.place-place.result c.index-lines-done.result c.in_ok-reply.reply c.self.inside
    (record { opening = c.self.inside.opening; programs = c.self.inside.programs; lines_done = with_item c.self.inside.lines_done c.place-place.result c.lines_after-over.result; schedule = c.push_reserved.new.self; replies = c.push_reserved-2.new.self; engine = c.step.new.self })
changed c =
    let session : c.args.s ≡ c.place-place.result + 1 = search rules in
    let low : c.place-place.result < 16 = omega arith in
    let count : length c.self.inside.lines_done.items ≡ 16 = c.self.invariant.sessions in
    let place : c.place-place.result < length c.self.inside.lines_done.items = omega arith in
    let done : c.index-done.result.now ≡ get_or c.self.inside.lines_done.items c.place-place.result 0 =
    c.index-done.ensures ∙ get_or_default c.self.inside.lines_done.items c.place-place.result c.index-done.result.now 0 place in
    let here : c.index-done.result.now ≡ (moment_of (play_of c.self.inside)).lines_done c.args.s =
    rw session (done ∙ c.self.invariant.lines_done c.place-place.result low) in
    let some : IsSome (next_line c.self.inside.programs (moment_of (play_of c.self.inside)) c.args.s) =
    subst (λ (play : Play). HasLine play c.args.s) (sym c.self.view_is) c.requires in
    let left : c.index-done.result.now < length (program_of c.self.inside.programs c.args.s) = rw here (slice_get_some_within _ _ some) in
    let line : slice_get (program_of c.self.inside.programs c.args.s) c.index-done.result.now ≡ Some c.index-lines-done.result =
    slice_get_read (program_of c.self.inside.programs c.args.s) _ c.index-done.result.now c.index-lines-done.result refl left
    (c.index-lines-done.is ∙ ap (λ (lines : List Request). get_or lines c.index-done.result.now c.index-lines-done.result) c.lines.ensures.lines) in
    record {
      session = session;
      within = low;
      line = rw (← here) line;
      opening = refl;
      programs = refl;
      schedule = rw (c.push_reserved.ensures.items, c.reserve.ensures.items) refl;
      replies = rw (c.push_reserved-2.ensures.items, c.reserve-2.ensures.items) refl;
      lines_done = ap (set c.self.inside.lines_done.items c.place-place.result) (c.lines_after-over.ensures _ (moment_of (play_of c.self.inside)).lines_done c.self.invariant.stands here);
      answer = (c.in_ok-reply.ensures.serves.ok _ c.self.invariant.stands).0;
      stands = (c.in_ok-reply.ensures.serves.ok _ c.self.invariant.stands).1;
      sound = c.in_ok-reply.ensures.sound;
    }

pub invariant_of-self-2 : goal.invariant_of-self-2
invariant_of-self-2 c = advanced _ _ _ _ _ _ c.self.invariant (changed c)

pub returns-clause-ok : goal.returns-clause-ok
returns-clause-ok c = advances _ _ _ _ _ _ _ c.self.view_is (changed c)

pub returns-clause-sweeps : goal.returns-clause-sweeps
returns-clause-sweeps c = λ w is. keeps_law c.args.self.now w is
