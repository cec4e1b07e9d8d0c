use Rattle.std.proofs.Common.{◌≡◌, ap, ◌∙◌}
use Rattle.xact_core.specs.declared.stamp.Stamp.{Stamp}
use Rattle.xact_core.proofs.Contracts.{top_there, stamp_owner, stamp_issued}
use Rattle.xact_core.specs.Stamp.{made_at}
use Rattle.xact_core.specs.Transactions.{Transactions}
use Rattle.xact_core.proofs.ViewLaws.{stamp_seen, stamp_hidden, stamp_later}
use Rattle.xact_core.proofs.xacts.Xacts.stamp.Goals as goal

pub top-requires : goal.top-requires
top-requires c = (top_there c.self.inside _ c.args.s c.place.result c.index-session.result.now c.self.view_is c.self.invariant c.place.ensures.place c.place.ensures.within c.index-session.ensures c.requires).0

pub returns-clause-owner : goal.returns-clause-owner
returns-clause-owner c =
    stamp_owner c.self.inside _ c.args.s _ c.new.result c.self.view_is c.self.invariant
    (top_there c.self.inside _ c.args.s c.place.result c.index-session.result.now c.self.view_is c.self.invariant c.place.ensures.place c.place.ensures.within c.index-session.ensures c.requires).1
    (ap (λ (st : Stamp). st.place) c.new.ensures ∙ c.top.ensures) (ap (λ (st : Stamp). st.undos) c.new.ensures)

pub returns-clause-issued : goal.returns-clause-issued
returns-clause-issued c =
    stamp_issued c.self.inside _ c.args.s _ c.new.result c.self.view_is
    (top_there c.self.inside _ c.args.s c.place.result c.index-session.result.now c.self.view_is c.self.invariant c.place.ensures.place c.place.ensures.within c.index-session.ensures c.requires).1
    (ap (λ (st : Stamp). st.place) c.new.ensures ∙ c.top.ensures) (ap (λ (st : Stamp). st.undos) c.new.ensures) (ap (λ (st : Stamp). st.clock) c.new.ensures)

made : (c : goal.After-new) → made_at c.new.result ≡ c.args.self.now.clock
made c = ap (λ (st : Stamp). st.clock) c.new.ensures ∙ ap (λ (x : Transactions). x.clock) c.self.view_is

pub returns-clause-own : goal.returns-clause-own
returns-clause-own c = stamp_seen c.args.self.now c.args.s _ c.new.result (returns-clause-owner c) (made c)

pub returns-clause-hidden : goal.returns-clause-hidden
returns-clause-hidden c = stamp_hidden c.args.self.now c.args.s _ c.new.result (returns-clause-owner c)

pub returns-clause-later : goal.returns-clause-later
returns-clause-later c = stamp_later c.args.self.now c.new.result (made c)
