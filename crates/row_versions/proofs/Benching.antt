-- What the bench of the tests keeps through the calls of the transactions.
use Rattle.std.proofs.Common.{◌≡◌, List, [], subst}
use Rattle.std.specs.Prelude.{Contains, Result, Ok, OnOk}
use Rattle.xact_core.specs.declared.snapshot.Snapshot.{Snapshot}
use Rattle.xact_core.specs.Kept.{HoldsWholeViews}
use Rattle.xact_core.specs.Transactions.{Transactions}
use Rattle.row_versions.proofs.Keeping.{nil_none}

pub whole_same : (old new : Transactions) → new.held ≡ old.held → HoldsWholeViews old → HoldsWholeViews new
whole_same old new same holds = record { whole = λ v here. holds.whole v (subst (λ (views : List Snapshot). Contains views v) same here) }

pub whole_none : (x : Transactions) → x.held ≡ [] → HoldsWholeViews x
whole_none x none = record { whole = λ v here. absurd (nil_none v (subst (λ (views : List Snapshot). Contains views v) none here)) }

-- what a call that succeeded says of that
pub said_ok : {A E P : Type 0} (r : Result A E) (a : A) → r ≡ Ok a → OnOk r P → P
said_ok {A} {E} {P} r a is said = subst (λ (s : Result A E). OnOk s P) is said
