-- lo_open, at each of its exits.
use Rattle.std.proofs.Common.{◌≡◌, ◌≤◌, ◌<◌, ℕ, ℤ, pos, zero, suc, ◌+◌, Bool, true, false, List, [], ◌∷◌, ◌++◌, length, map, Option, Some, None, refl, ap, sym, subst, ◌∙◌, arith, append-nil, append_assoc, length-append}
use Rattle.std.specs.Prelude.{not, ◌||◌, nat_le, IsPermutation, if◌then◌else◌}
use Rattle.std.proofs.lemmas.Bool.Decides.{nat_tests}
use Rattle.std.proofs.lemmas.List.{length-map, map-append}
use Rattle.std.proofs.lemmas.List.Elements.{All-push}
use Rattle.std.proofs.lemmas.List.Sorted.{IsPermutation-trans, IsPermutation-append_left, IsPermutation-append_right, IsPermutation-append_comm}
use Rattle.lo_base.specs.declared.refusal.Cause.TheVariants.{NoObject, BadMode, TooManyDescriptors}
use Rattle.lo_base.specs.declared.reply.Reply.TheVariants.{Number}
use Rattle.lo_model.specs.Descriptor as model
use Rattle.lo_model.specs.Edit.{Deed, Edit}
use Rattle.lo_model.specs.Listing.{has_object}
use Rattle.xact_core.specs.declared.snapshot.Snapshot.{Snapshot}
use Rattle.xact_core.specs.Kept.{current}
use Rattle.xact_core.specs.Transactions.{Transactions, levels_of}
use Rattle.lo_pages.specs.Outcome.{first_of}
use Rattle.lo_pages.specs.Standing.{StandFor, ReadsAs}
use Rattle.lo_pages.proofs.Standing.{go_held, stand_held}
use Rattle.lo_pages.proofs.Steps.{left_none}
use Rattle.lo_calls.specs.declared.descs.Descriptor.{Descriptor}
use Rattle.lo_calls.specs.declared.descs.Descs.{Descs}
use Rattle.lo_calls.specs.DescriptorRows.{may_read, may_write, opened_by, open_row}
use Rattle.lo_calls.specs.Descriptors.{reading_of, described_by, descriptors_of, held_by, holds_in, holds_of, last_position, IsOwnHold}
use Rattle.lo_calls.specs.Access.{HoldsFor}
use Rattle.lo_calls.specs.World.{World, world, here_of, IsReady, IsGranted, Grants, Refuses, FindsNoMemory, Keeps}
use Rattle.lo_calls.proofs.Closing.{holds_same, holds_append}
use Rattle.lo_calls.proofs.Keeping.{with_descs, moved_keeps}
use Rattle.lo_calls.proofs.Refusing.{skip, stop, holds, fails}
use Rattle.lo_calls.proofs.Seeing.{missing, present}

pub holds_none : (mode : ℤ) (view : Snapshot) (x : Transactions) → may_write mode ≡ true → HoldsFor mode view x x None
holds_none mode view x writes = record { is = rw writes refl; others = holds_same x; held = sym (append-nil x.held); whole = λ whole before. before; views = omega arith }

-- the lowest free number is at most the count of descriptors
free_from : (count from : ℕ) (ds : List model.Descriptor) → model.free_number_from count from ds ≤ from + count
free_from zero from ds = omega arith
free_from (suc more) from ds = by_test (model.is_number_taken ds from) refl (free_from more (from + 1) ds)
  where
    by_test : (t : Bool) → model.is_number_taken ds from ≡ t → model.free_number_from more (from + 1) ds ≤ from + 1 + more → model.free_number_from (suc more) from ds ≤ from + suc more
    by_test true is rest = rw is (omega (arith, rest))
    by_test false is rest = rw is (omega arith)

pub free_small : (entries : List Descriptor) → model.free_number (map described_by entries) ≤ length entries
free_small entries = omega (arith, free_from (length (map described_by entries)) 0 (map described_by entries), length-map entries described_by)

module _ (o : ℕ) (mode : ℤ) (w : World) (ready : IsReady w) (snap : Snapshot) (now : snap ≡ current w.xacts w.session.s) (found : Bool) (exists : (edits : List (Edit Deed)) → ReadsAs w.xacts snap w.store.pages edits → found ≡ has_object edits o) where
  pub open_missing : found ≡ false → Refuses (open_row o mode) w w (record { cause = NoObject; subject = pos o })
  open_missing none = record { first = λ ys stands. stop _ _ _ (missing w ready snap now o found exists none ys stands); same = refl }

  pub open_bad_mode : found ≡ true → (may_read mode || may_write mode) ≡ false → Refuses (open_row o mode) w w (record { cause = BadMode; subject = mode })
  open_bad_mode there bad = record { first = λ ys stands. skip _ _ (present w ready snap now o found exists there ys stands) ∙ stop _ _ _ (holds (not (may_read mode || may_write mode)) BadMode mode (ap not bad)); same = refl }

  module _ (there : found ≡ true) (good : (may_read mode || may_write mode) ≡ true) where
    pub open_too_many : 256 ≤ length w.session.descs.entries.items → Refuses (open_row o mode) w w (record { cause = TooManyDescriptors; subject = pos 256 })
    open_too_many many = record {
      first = λ ys stands. skip _ _ (present w ready snap now o found exists there ys stands)
          ∙ (skip _ _ (fails (not (may_read mode || may_write mode)) BadMode mode (ap not good))
          ∙ stop _ _ _ (holds (nat_le 256 (length (descriptors_of w.session.descs))) TooManyDescriptors (pos 256) (let count = length-map w.session.descs.entries.items described_by in grind (arith, nat_tests))));
      same = refl;
    }

    pub open_unrefused : length w.session.descs.entries.items < 256 → (ys : List (Edit Deed)) → StandFor w.xacts w.store.pages ys → first_of (open_row o mode (here_of w ys)).refusals ≡ None
    open_unrefused few ys stands =
        skip _ _ (present w ready snap now o found exists there ys stands)
        ∙ (skip _ _ (fails (not (may_read mode || may_write mode)) BadMode mode (ap not good))
        ∙ skip _ _ (fails (nat_le 256 (length (descriptors_of w.session.descs))) TooManyDescriptors (pos 256) (let count = length-map w.session.descs.entries.items described_by in grind (arith, nat_tests))))

-- one view more is held, by one descriptor more
one_more : (holds new others held : List Snapshot) → IsPermutation held (holds ++ others) → IsPermutation (held ++ new) ((holds ++ new) ++ others)
one_more holds new others held all =
    let behind = IsPermutation-append_left new held (holds ++ others) all in
    let moved = IsPermutation-append_right holds (others ++ new) (new ++ others) (IsPermutation-append_comm others new) in
    IsPermutation-trans (held ++ new) (holds ++ (others ++ new)) ((holds ++ new) ++ others) (rw append_assoc at behind) (rw append_assoc moved)

-- A descriptor was opened behind the others.
module _ (o : ℕ) (mode : ℤ) (w : World) (ready : IsReady w) (x : Transactions) (hold : Option Snapshot) (held : HoldsFor mode (current w.xacts w.session.s) w.xacts x hold) (descs : Descs) (d : Descriptor) (last : descs.entries.items ≡ w.session.descs.entries.items ++ d ∷ []) (number : d.number ≡ model.free_number (descriptors_of w.session.descs)) (oid : d.oid ≡ o) (start : d.position ≡ 0) (level : d.level ≡ length (levels_of x w.session.s)) (hold_is : d.hold ≡ hold) (few : length w.session.descs.entries.items < 256) where
  abbrev pub after : World
  after = world x w.store (with_descs w.session descs)

  same_level : length (levels_of x w.session.s) ≡ length (levels_of w.xacts w.session.s)
  same_level = ap (λ (u : Transactions). length (levels_of u w.session.s)) held.others.rest

  reading : (ys : List (Edit Deed)) → reading_of d.hold ≡ (if may_write mode then model.Current else model.Kept (here_of w ys).now)
  reading ys = ap reading_of (hold_is ∙ held.is) ∙ by_test (may_write mode)
    where
      by_test : (t : Bool) → reading_of (if t then None else Some (current w.xacts w.session.s)) ≡ (if t then model.Current else model.Kept (w.xacts.clock + 1))
      by_test true = refl
      by_test false = refl

  is_opened : (ys : List (Edit Deed)) → described_by d ≡ opened_by (here_of w ys) o mode
  is_opened ys =
      let is = reading ys in
      let depth = level ∙ same_level in
      rw (number, oid, start, depth, is) refl

  pub open_done : ((ys : List (Edit Deed)) → StandFor w.xacts w.store.pages ys → first_of (open_row o mode (here_of w ys)).refusals ≡ None) → Grants (open_row o mode) w after (Number (pos d.number))
  open_done unrefused = record { granted = by }
    where
      by : (ys : List (Edit Deed)) → StandFor w.xacts w.store.pages ys → IsGranted (open_row o mode (here_of w ys)) w after (Number (pos d.number)) ys
      by ys stands = record {
        unrefused = unrefused ys stands;
        answer = ap (λ (n : ℕ). Number (pos n)) number;
        edits = subst (StandFor x w.store.pages) (sym (append-nil ys)) (stand_held w.xacts x w.store.pages ys held.others stands);
        descriptors = ap (map described_by) last ∙ map-append described_by w.session.descs.entries.items (d ∷ []) ∙ ap (λ (e : model.Descriptor). descriptors_of w.session.descs ++ e ∷ []) (is_opened ys);
        counter = refl;
      }

  holds_more : holds_of descs ≡ holds_of w.session.descs ++ held_by hold
  holds_more = ap holds_in last ∙ holds_append w.session.descs.entries.items (d ∷ []) ∙ ap (λ (views : List Snapshot). holds_of w.session.descs ++ views) (append-nil (held_by d.hold) ∙ ap held_by hold_is)

  held_more : (others : List Snapshot) → IsPermutation w.xacts.held (holds_of w.session.descs ++ others) → IsPermutation x.held (holds_of descs ++ others)
  held_more others all = rw (held.held, holds_more) (one_more (holds_of w.session.descs) (held_by hold) others w.xacts.held all)

  own : IsOwnHold w.session.s d.hold
  own = subst (IsOwnHold w.session.s) (sym (hold_is ∙ held.is)) (by_test (may_write mode))
    where
      by_test : (t : Bool) → IsOwnHold w.session.s (if t then None else Some (current w.xacts w.session.s))
      by_test true = tt
      by_test false = refl

  pub open_keeps : Keeps w after
  open_keeps = record {
    ready = record {
      transaction = subst (λ (n : ℕ). 0 < n) (sym same_level) ready.transaction;
      whole = held.whole tt ready.whole;
      goes = go_held w.xacts x w.store.pages held.others ready.goes;
      descriptors = record {
        most = let more = ap (λ (entries : List Descriptor). length entries) last in omega (arith, more, few, length-append w.session.descs.entries.items (d ∷ []));
        positions = rw last (All-push (λ (e : Descriptor). e.position ≤ last_position) w.session.descs.entries.items d ready.descriptors.positions (omega (arith, start)));
        holds = rw last (All-push (λ (e : Descriptor). IsOwnHold w.session.s e.hold) w.session.descs.entries.items d ready.descriptors.holds own);
        held = record { rest = ready.descriptors.held.rest; all = held_more ready.descriptors.held.rest ready.descriptors.held.all };
      };
      counter = ready.counter;
    };
    session = refl;
    others = held.others;
    holds = record { rest = held_more };
    views = held.views;
  }

-- room for one descriptor more was taken, and then no memory for its hold was there
pub open_no_memory : (w : World) (descs : Descs) → descs.entries.items ≡ w.session.descs.entries.items → FindsNoMemory w (world w.xacts w.store (with_descs w.session descs))
open_no_memory w descs same = record {
  pages = left_none w.xacts w.session.s w.store.pages;
  counter = refl;
  session = record { number = refl; descriptors = ap (map described_by) same; holds = ap holds_in same };
  xacts = refl;
}

pub open_room_keeps : (w : World) (descs : Descs) → IsReady w → descs.entries.items ≡ w.session.descs.entries.items → Keeps w (world w.xacts w.store (with_descs w.session descs))
open_room_keeps w descs ready same = moved_keeps w w.store descs ready ready.goes ready.counter (ap holds_in same) (record {
  most = rw same ready.descriptors.most;
  positions = rw same ready.descriptors.positions;
  holds = rw same ready.descriptors.holds;
  held = record { rest = ready.descriptors.held.rest; all = rw same ready.descriptors.held.all };
})
