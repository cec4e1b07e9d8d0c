-- Acts by their kind, and by the answers that they take.
use Rattle.std.proofs.Common.{◌≡◌, ℕ, true, IsTrue, List, refl}
use Rattle.orphan_sweep.specs.declared.act.SweepAct.{SweepAct}
use Rattle.orphan_sweep.specs.declared.act.SweepAct.TheVariants.{Scan as Scanning, Begin, Unlink, Commit, Rollback, Report, Idle}
use Rattle.orphan_sweep.specs.declared.act.Told.TheVariants.{Found, Refused}
use Rattle.orphan_sweep.specs.Plan.{is_answer_to}
use Rattle.orphan_sweep.specs.History.{is_commit}
use Rattle.orphan_sweep.specs.Place.{is_unlink}

-- an unlink, with its number
pub the_unlink : (act : SweepAct) → IsTrue (is_unlink act) → (o : ℕ) × (act ≡ Unlink o)
the_unlink (Scanning table column) h = cc
the_unlink Begin h = cc
the_unlink (Unlink o) h = (o, refl)
the_unlink Commit h = cc
the_unlink Rollback h = cc
the_unlink Report h = cc
the_unlink Idle h = cc

pub the_commit : (act : SweepAct) → is_commit act ≡ true → act ≡ Commit
the_commit (Scanning table column) h = cc
the_commit Begin h = cc
the_commit (Unlink o) h = cc
the_commit Commit h = refl
the_commit Rollback h = cc
the_commit Report h = cc
the_commit Idle h = cc

-- only a scan finds numbers
pub the_scan : (act : SweepAct) (found : List ℕ) → IsTrue (is_answer_to act (Found found)) → (table : List ℕ) × (column : List ℕ) × (act ≡ Scanning table column)
the_scan (Scanning table column) found h = (table, column, refl)
the_scan Begin found h = cc
the_scan (Unlink o) found h = cc
the_scan Commit found h = cc
the_scan Rollback found h = cc
the_scan Report found h = cc
the_scan Idle found h = cc

-- only an unlink is refused
pub the_refused : (act : SweepAct) → IsTrue (is_answer_to act Refused) → (o : ℕ) × (act ≡ Unlink o)
the_refused (Scanning table column) h = cc
the_refused Begin h = cc
the_refused (Unlink o) h = (o, refl)
the_refused Commit h = cc
the_refused Rollback h = cc
the_refused Report h = cc
the_refused Idle h = cc
