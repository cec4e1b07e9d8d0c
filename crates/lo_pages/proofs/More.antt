-- What stays, a call outside a page, and the bytes of a page.
use Rattle.std.proofs.Common.{◌≡◌, ℕ, ◌+◌, ◌-◌, ◌*◌, ◌<◌, ◌≤◌, min, Bool, true, false, List, [], ◌∷◌, ◌++◌, length, take, drop, Option, None, refl, ap, sym, ◌∙◌, arith, append-nil, length-drop}
use Rattle.std.proofs.lemmas.Bool.Decides.{nat_tests}
use Rattle.std.proofs.lemmas.Grind.{same_number_lists}
use Rattle.std.proofs.lemmas.List.{length-take}
use Rattle.std.proofs.lemmas.List.Elements.{filter-append}
use Rattle.lo_model.specs.declared.owner.Owner.TheVariants.{Running, Committed}
use Rattle.lo_model.specs.declared.viewer.Viewer.{Viewer}
use Rattle.lo_model.specs.Edit.{Deed, Create, Write, Cut, Unlink, Put, Delete, Edit, deeds}
use Rattle.lo_model.specs.Levels.{is_from_level, committed}
use Rattle.lo_model.specs.Numbering.{is_on}
use Rattle.lo_model.specs.Object.{at_size, object_after, object_after_all, object_in}
use Rattle.lo_model.specs.View.{sees, sees_edit, view}
use Rattle.xact_core.specs.Transactions.{Transactions, levels_of}
use Rattle.row_versions.specs.Stack.{Each}
use Rattle.row_versions.specs.Stands.{made_now}
use Rattle.lo_model.specs.Descriptor.{bytes_or_none}
use Rattle.lo_pages.specs.Object.{byte_at, IsObject}
use Rattle.lo_pages.proofs.Bytes.{at_take, at_drop, size_size, size_in}

-- A view that does not see an edit has what it had.
pub view_unseen : (n : ℕ) (viewer : Viewer) (ys : List (Edit Deed)) (e : Edit Deed) → sees n viewer e.clock e.owner ≡ false → view n viewer (ys ++ e ∷ []) ≡ view n viewer ys
view_unseen n viewer ys e unseen =
    let both : view n viewer (ys ++ e ∷ []) ≡ view n viewer ys ++ view n viewer (e ∷ []) = filter-append (sees_edit {D = Deed} n viewer) ys (e ∷ []) in
    both ∙ rw unseen (append-nil (view n viewer ys))

object_spared : (o : ℕ) (old : Option (List ℕ)) (d : Deed) → is_on o d ≡ false → object_after o old d ≡ old
object_spared o old (Create p) not = rw not refl
object_spared o old (Write p at bytes) not = rw not refl
object_spared o old (Cut p n) not = rw not refl
object_spared o old (Unlink p) not = rw not refl
object_spared o old (Put table id values stored) not = refl
object_spared o old (Delete table id) not = refl

object_end : (o : ℕ) (old : Option (List ℕ)) (ys : List (Edit Deed)) (e : Edit Deed) → is_on o e.deed ≡ false → object_after_all o old (deeds (ys ++ e ∷ [])) ≡ object_after_all o old (deeds ys)
object_end o old [] e not = object_spared o old e.deed not
object_end o old (y ∷ ys) e not = object_end o (object_after o old y.deed) ys e not

-- Other objects stay.
pub others_stay : (o n : ℕ) (viewer : Viewer) (ys : List (Edit Deed)) (e : Edit Deed) → is_on o e.deed ≡ false → object_in o (view n viewer (ys ++ e ∷ [])) ≡ object_in o (view n viewer ys)
others_stay o n viewer ys e not = by_seen (sees n viewer e.clock e.owner) refl
  where
    by_seen : (b : Bool) → sees n viewer e.clock e.owner ≡ b → object_in o (view n viewer (ys ++ e ∷ [])) ≡ object_in o (view n viewer ys)
    by_seen false unseen = ap (object_in o) (view_unseen n viewer ys e unseen)
    by_seen true seen =
        let both : view n viewer (ys ++ e ∷ []) ≡ view n viewer ys ++ view n viewer (e ∷ []) = filter-append (sees_edit {D = Deed} n viewer) ys (e ∷ []) in
        ap (object_in o) both ∙ rw seen (object_end o None (view n viewer ys) e not)

-- A call outside a page is done in a transaction of its own, and leaves an edit of its own clock.
pub made_outside : (x : Transactions) (s : ℕ) (ys : List (Edit Deed)) (deed : Deed) → Each (λ (e : Edit Deed). is_from_level s 0 e.owner ≡ false) ys → committed s x.clock (ys ++ made_now x s deed ∷ []) ≡ ys ++ record { clock = x.clock; owner = Committed x.clock; deed = deed } ∷ []
made_outside x s [] deed none = let own : is_from_level s 0 (Running s (length (levels_of x s))) ≡ true = grind (arith, nat_tests) in rw own refl
made_outside x s (e ∷ es) deed none = let not : is_from_level s 0 e.owner ≡ false = none.0 in rw (not, made_outside x s es deed none.1) refl

-- What lies in one page of an object is read from its page, with zeros behind it.
module _ (bytes : List ℕ) (f : ℕ → Option (List ℕ)) (is : IsObject bytes f) (b i k : ℕ) (within : i + k ≤ 2048) where
  abbrev page : List ℕ
  page = bytes_or_none (f b)

  abbrev left : List ℕ
  left = take k (drop (2048 * b + i) bytes)

  abbrev right : List ℕ
  right = take (min k (length bytes - (2048 * b + i))) (drop i (at_size 2048 (bytes_or_none (f b))))

  left_length : length left ≡ min k (length bytes - (2048 * b + i))
  left_length = omega (arith, length-take k (drop (2048 * b + i) bytes), length-drop {A = ℕ} (2048 * b + i) bytes)

  right_length : length right ≡ min k (length bytes - (2048 * b + i))
  right_length = omega (arith, length-take (min k (length bytes - (2048 * b + i))) (drop i (at_size 2048 page)), length-drop {A = ℕ} i (at_size 2048 page), size_size 2048 page, within)

  places : (t : ℕ) → t < length left → byte_at left t ≡ byte_at right t
  places t less =
      let few : t < k = omega (arith, less, left_length) in
      let at : (2048 * b + i) + t ≡ 2048 * b + (i + t) = omega arith in
      at_take k (drop (2048 * b + i) bytes) t few
      ∙ (at_drop (2048 * b + i) bytes t
      ∙ (ap (byte_at bytes) at
      ∙ (is.same b (i + t) (omega (arith, few, within))
      ∙ (sym (size_in 2048 page (i + t) (omega (arith, few, within)))
      ∙ (sym (at_drop i (at_size 2048 page) t)
      ∙ sym (at_take (min k (length bytes - (2048 * b + i))) (drop i (at_size 2048 page)) t (omega (arith, less, left_length))))))))

  pub piece_reads : take k (drop (2048 * b + i) bytes) ≡ take (min k (length bytes - (2048 * b + i))) (drop i (at_size 2048 (bytes_or_none (f b))))
  piece_reads = same_number_lists left right (left_length ∙ sym right_length) places
