-- lo_get, at each of its exits.
use Rattle.std.proofs.Common.{◌≡◌, ◌≤◌, ℕ, ℤ, pos, Bool, true, false, List, length, drop, Option, None, refl, ap, sym, subst, ◌∙◌, arith, length-drop, append-nil}
use Rattle.std.proofs.lemmas.List.{take_all}
use Rattle.lo_base.specs.declared.refusal.Cause.TheVariants.{NoObject}
use Rattle.lo_base.specs.declared.refusal.Denied.{Denied}
use Rattle.lo_base.specs.declared.refusal.Denied.TheVariants.{By, NoMemory}
use Rattle.lo_base.specs.declared.refusal.Refusal.{Refusal}
use Rattle.lo_base.specs.declared.reply.Reply.TheVariants.{Content}
use Rattle.lo_model.specs.Edit.{Deed, Edit}
use Rattle.lo_model.specs.Listing.{has_object}
use Rattle.xact_core.specs.declared.snapshot.Snapshot.{Snapshot}
use Rattle.xact_core.specs.Kept.{current}
use Rattle.lo_pages.specs.Standing.{StandFor, ReadsAs}
use Rattle.lo_pages.proofs.Filling.{end_is}
use Rattle.lo_pages.proofs.Steps.{left_none}
use Rattle.lo_calls.specs.Arguments.{IsOffset, IsNoOffset, IsLimit, IsNoLimit}
use Rattle.lo_calls.specs.ObjectRows.{get_row, bytes_of, bytes_got, limited}
use Rattle.lo_calls.specs.Reading.{part_read, ReadsPart, DeniesPart}
use Rattle.lo_calls.specs.Row.{view_of}
use Rattle.lo_calls.specs.Terms.{no_object, too_much, count_of}
use Rattle.lo_calls.specs.World.{World, here_of, IsReady, Grants, Refuses, Denies}
use Rattle.lo_calls.proofs.Refusing.{skip, stop, few_enough}
use Rattle.lo_calls.proofs.Seeing.{reads, missing, present}
use Rattle.lo_calls.proofs.Worlds.{no_memory}

pub no_limit : IsLimit None 18446744073709551615
no_limit = record { good = refl; front = λ bytes small. sym (take_all 18446744073709551615 bytes (omega (arith, small))) }

module _ (o : ℕ) (from : ℤ) (asked : Option ℤ) (w : World) (ready : IsReady w) (snap : Snapshot) (now : snap ≡ current w.xacts w.session.s) (found : Bool) (exists : (edits : List (Edit Deed)) → ReadsAs w.xacts snap w.store.pages edits → found ≡ has_object edits o) where
  pub get_missing : found ≡ false → Refuses (get_row o from asked) w w (record { cause = NoObject; subject = pos o })
  get_missing none = record { first = λ ys stands. stop _ _ _ (missing w ready snap now o found exists none ys stands); same = refl }

  module _ (there : found ≡ true) where
    seen : (ys : List (Edit Deed)) → StandFor w.xacts w.store.pages ys → no_object (here_of w ys) o ≡ None
    seen ys stands = present w ready snap now o found exists there ys stands

    pub get_bad_offset : (r : Refusal) → IsNoOffset from r → Refuses (get_row o from asked) w w r
    get_bad_offset r bad = record { first = λ ys stands. skip _ _ (seen ys stands) ∙ stop _ _ r bad.bad; same = refl }

    module _ (at : ℕ) (offset : IsOffset from at) where
      pub get_bad_limit : (r : Refusal) → IsNoLimit asked r → Refuses (get_row o from asked) w w r
      get_bad_limit r bad = record { first = λ ys stands. skip _ _ (seen ys stands) ∙ (skip _ _ offset.good ∙ stop _ _ r bad.bad); same = refl }

      module _ (most : ℕ) (limit : IsLimit asked most) where
        -- the part that was read is the one that the row names
        part_is : (ys : List (Edit Deed)) → StandFor w.xacts w.store.pages ys → part_read o at most (view_of (here_of w ys)) ≡ bytes_got (here_of w ys) o from asked
        part_is ys stands =
            let bytes : List ℕ = bytes_of (here_of w ys) o in
            let small : length bytes ≤ 8796093022208 = end_is w.xacts snap w.store.pages (view_of (here_of w ys)) (reads w ready snap now ys stands) o in
            sym (ap (λ n. limited asked (drop n bytes)) (ap count_of offset.is) ∙ limit.front (drop at bytes) (omega (arith, small, length-drop {A = ℕ} at bytes)))

        pub get_much : (d : Denied) → DeniesPart w.xacts snap w.store.pages o at most d → Denies (get_row o from asked) w w d
        get_much (By r) refuses = record {
          first = λ ys stands. skip _ _ (seen ys stands) ∙ (skip _ _ offset.good ∙ (skip _ _ limit.good ∙ stop _ _ r (sym (ap (λ (bytes : List ℕ). too_much (length bytes)) (part_is ys stands)) ∙ refuses.much (view_of (here_of w ys)) (reads w ready snap now ys stands))));
          same = refl;
        }
        get_much NoMemory tt = no_memory w w (left_none w.xacts w.session.s w.store.pages) refl refl refl

        pub get_done : (bytes : List ℕ) → ReadsPart w.xacts snap w.store.pages o at most bytes → Grants (get_row o from asked) w w (Content bytes)
        get_done bytes part = record {
          granted = λ ys stands.
              let is : bytes ≡ bytes_got (here_of w ys) o from asked = part.is (view_of (here_of w ys)) (reads w ready snap now ys stands) ∙ part_is ys stands in
              record {
                unrefused = skip _ _ (seen ys stands) ∙ (skip _ _ offset.good ∙ (skip _ _ limit.good ∙ skip _ _ (few_enough (length (bytes_got (here_of w ys) o from asked)) (subst (λ (l : List ℕ). length l ≤ 16777216) is part.few))));
                answer = ap Content is;
                edits = subst (StandFor w.xacts w.store.pages) (sym (append-nil ys)) stands;
                descriptors = refl;
                counter = refl;
              };
        }
