-- A session without descriptors, in any transactions.
use Rattle.std.proofs.Common.{◌≡◌, ◌≤◌, ℕ, List, [], ◌++◌, sym, subst, arith}
use Rattle.std.specs.Prelude.{All, IsPermutation}
use Rattle.std.proofs.lemmas.List.Elements.{All-nil}
use Rattle.std.proofs.lemmas.List.Sorted.{IsPermutation-refl}
use Rattle.xact_core.specs.Transactions.{Transactions}
use Rattle.lo_calls.specs.declared.descs.Descriptor.{Descriptor}
use Rattle.lo_calls.specs.declared.descs.Descs.{Descs}
use Rattle.lo_calls.specs.Descriptors.{holds_in, last_position, AreOpen, IsOwnHold}

pub none_open : (x : Transactions) (s : ℕ) (descs : Descs) → descs.entries.items ≡ [] → AreOpen x s descs
none_open x s descs none = record {
  most = rw none (omega arith);
  positions = subst (All (λ (d : Descriptor). d.position ≤ last_position)) (sym none) (All-nil _);
  holds = subst (All (λ (d : Descriptor). IsOwnHold s d.hold)) (sym none) (All-nil _);
  held = record { rest = x.held; all = subst (λ (entries : List Descriptor). IsPermutation x.held (holds_in entries ++ x.held)) (sym none) (IsPermutation-refl x.held) };
}
