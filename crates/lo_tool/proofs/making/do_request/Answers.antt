use Rattle.std.proofs.Common.{◌≡◌, ℕ, ◌∙◌, ap, subst}
use Rattle.lo_machine.specs.Committed.{committed_opening}
use Rattle.lo_machine.specs.Engine.{StandsFor}
use Rattle.lo_machine.specs.Step.{reply_to, state_after}
use Rattle.lo_opening.specs.Meaning.{opening_of}
use Rattle.lo_opening.specs.Opening.{OpeningData}
use Rattle.lo_tool.specs.Objects.{begun}
use Rattle.lo_tool.proofs.making.do_request.Goals as goal

pub returns : goal.returns
returns c =
    let st = begun (opening_of c.args.opening.now) in
    let served = c.in_ok-reply.ensures.serves.ok st c.in_ok-engine.ensures.stands in
    let reply : c.in_ok-reply.reply ≡ reply_to st 1 c.args.request.now = subst (λ (s : ℕ). c.in_ok-reply.reply ≡ reply_to st s c.args.request.now) c.first_session-s.ensures served.0 in
    let stands : StandsFor c.step.new.self (state_after st 1 c.args.request.now) = subst (λ (s : ℕ). StandsFor c.step.new.self (state_after st s c.args.request.now)) c.first_session-s.ensures served.1 in
    let blocks : c.opening.inside.blocks ≡ c.args.opening.now.blocks = ap (λ (d : OpeningData). d.blocks) c.opening.view_is in
    record {
      ok = record {
        granted = λ refusal is. c.in_default.not-Refused refusal (reply ∙ is);
        committed = subst (λ (n : ℕ). opening_of c.in_ok-committed.field-0 ≡ committed_opening n (state_after st 1 c.args.request.now)) blocks (c.in_ok-committed.ensures (state_after st 1 c.args.request.now) stands);
      };
      err = tt;
    }
