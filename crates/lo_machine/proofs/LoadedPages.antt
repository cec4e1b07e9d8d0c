-- Pages that were made of objects stand for the deeds of these, whatever rows were put before.
use Rattle.std.proofs.Common.{◌≡◌, ℕ, ◌==◌, Bool, true, false, List, [], ◌∷◌, ◌++◌, length, Option, Some, None, refl, ap, sym, subst, ◌∙◌, append-nil, append_assoc, arith}
use Rattle.std.specs.Prelude.{if◌then◌else◌}
use Rattle.std.proofs.lemmas.Bool.{false≢true}
use Rattle.std.proofs.lemmas.Bool.Decides.{nat_tests}
use Rattle.lo_model.specs.declared.owner.Owner.{Owner}
use Rattle.lo_model.specs.declared.owner.Owner.TheVariants.{Running}
use Rattle.lo_model.specs.Edit.{Create, Cut, Deed, Delete, Put, Unlink, Write}
use Rattle.lo_model.specs.Touch.{Touched, busy_with, lower_of, meets, other_session, touched}
use Rattle.lo_pages.specs.declared.pages.Pages.{Pages}
use Rattle.lo_pages.specs.Calls.{IsMaker}
use Rattle.lo_pages.specs.Standing.{StandFor}
use Rattle.lo_pages.proofs.Standing.{stand_put}
use Rattle.lo_restore.specs.Objects.{IsFresh, Loads, now_by}
use Rattle.lo_restore.proofs.TableDeeds.{edits_both}
use Rattle.lo_restore.proofs.TablesBegin.{alone_begun}
use Rattle.row_versions.proofs.Benching.{whole_none}
use Rattle.xact_core.specs.Ends.{Opens}
use Rattle.xact_core.specs.Transactions.{Transactions, beginning, levels_of}
use Rattle.lo_machine.specs.Loading.{ArePuts, StandBehindRows}

-- no edits, of which no other session has one
pub fresh_pages : (x : Transactions) (s : ℕ) (pages : Pages) → StandFor x pages [] → IsFresh x s 0 pages
fresh_pages x s pages stand = record { edits = []; stand = stand; free = refl; absent = λ o least. refl }

module _ (x : Transactions) (s : ℕ) (begun : Opens s None beginning x) where
  abbrev owner : Owner
  owner = Running s (length (levels_of x s))

  maker : IsMaker x s
  maker = record { number = begun.levels.low; some = (alone_begun s x begun).begun; whole = whole_none x begun.held }

  own_edit : (wanted : Touched) (d : Deed) → (if meets wanted (touched d) then other_session s owner else None) ≡ None
  own_edit wanted d = by (meets wanted (touched d))
    where
      itself : other_session s owner ≡ None
      itself = let same : (s == s) ≡ true = grind (arith, nat_tests) in ap (λ (b : Bool). if b then None else Some s) same

      by : (b : Bool) → (if b then other_session s owner else None) ≡ None
      by true = itself
      by false = refl

  -- a session is not busy with itself
  not_busy : (wanted : Touched) (ds : List Deed) → busy_with s wanted (now_by x s ds) ≡ None
  not_busy wanted [] = refl
  not_busy wanted (d ∷ ds) = ap (λ (o : Option ℕ). lower_of o (busy_with s wanted (now_by x s ds))) (own_edit wanted d) ∙ not_busy wanted ds

  module _ (pages : Pages) where
    abbrev StandNow : List Deed → Type 0
    StandNow ds = StandFor x pages (now_by x s ds)

    behind_rows : (done puts : List Deed) → ArePuts puts → StandNow done → StandNow (done ++ puts)
    behind_rows done [] are stand = subst StandNow (sym (append-nil done)) stand
    behind_rows done (Create o ∷ puts) are stand = absurd (false≢true are.0)
    behind_rows done (Write o at bytes ∷ puts) are stand = absurd (false≢true are.0)
    behind_rows done (Cut o size ∷ puts) are stand = absurd (false≢true are.0)
    behind_rows done (Unlink o ∷ puts) are stand = absurd (false≢true are.0)
    behind_rows done (Delete t i ∷ puts) are stand = absurd (false≢true are.0)
    behind_rows done (Put t i values stored ∷ puts) are stand =
        let one : Deed = Put t i values stored in
        let next : StandNow (done ++ one ∷ []) = subst (StandFor x pages) (sym (edits_both x.clock owner done (one ∷ []))) (stand_put x s pages (now_by x s done) t i values stored maker (not_busy (touched one) done) stand) in
        subst StandNow (append_assoc done (one ∷ []) puts) (behind_rows (done ++ one ∷ []) puts are.1 next)

  pub stand_behind : (old new : Pages) (ds : List Deed) → StandFor x old [] → Loads x s ds old new → StandBehindRows x s ds new
  stand_behind old new ds none loads = record {
    stand = λ puts are. subst (StandFor x new) (sym (edits_both x.clock owner puts ds)) (loads.stand (now_by x s puts) (behind_rows old [] puts are none));
  }
