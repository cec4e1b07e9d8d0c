-- What the calls on cursors keep, where nothing changed and where cursors were closed, and what a closing grants.
use Rattle.std.proofs.Common.{◌≡◌, ℕ, ℤ, Bool, true, false, List, [], ◌∷◌, ◌++◌, Option, Some, None, refl, ap, sym, subst, ◌∙◌, arith, append-nil}
use Rattle.std.specs.Prelude.{not, is_none, is_some, bytes_eq}
use Rattle.std.proofs.lemmas.Bool.{false≢true}
use Rattle.std.proofs.lemmas.List.Elements.{All-filter}
use Rattle.lo_base.specs.declared.refusal.Cause.{Cause}
use Rattle.lo_base.specs.declared.refusal.Refusal.{Refusal}
use Rattle.lo_base.specs.declared.reply.Reply.TheVariants.{Word}
use Rattle.lo_base.specs.declared.reply.Word.TheVariants as words
use Rattle.lo_model.specs.Descriptor as model
use Rattle.lo_model.specs.Edit.{Deed, Edit}
use Rattle.xact_core.specs.Kept.{HoldsOthers}
use Rattle.xact_core.specs.Transactions.{Transactions}
use Rattle.row_tables.specs.declared.cursors.Closing.{Closing}
use Rattle.row_tables.specs.declared.cursors.Cursor.{Cursor}
use Rattle.row_tables.specs.declared.cursors.Cursors.{Cursors}
use Rattle.row_tables.specs.declared.tables.Tables.{Tables}
use Rattle.row_tables.specs.CursorRules.{close_row}
use Rattle.row_tables.specs.Cursors.{cursors_of, own_cursors, closed_by, closes, left_open, Ends}
use Rattle.row_tables.specs.Standing.{GoWith, StandFor}
use Rattle.row_tables.specs.Terms.{first_of, refusal, when}
use Rattle.row_tables.specs.World.{Grants, HasTable, IsGranted, IsReady, Keeps, SameRows, World, here_of, world}
use Rattle.row_tables.proofs.Ends.{holds_same, others_left, own_left}
use Rattle.row_tables.proofs.Laws.{with_held}
use Rattle.row_tables.proofs.Resting.{for_held, for_same, goes_same}

-- terms of refusals, of which one holds or does not

pub skip : (term : Option Refusal) (terms : List (Option Refusal)) → term ≡ None → first_of (term ∷ terms) ≡ first_of terms
skip term terms none = rw none refl

pub stop : (term : Option Refusal) (terms : List (Option Refusal)) (r : Refusal) → term ≡ Some r → first_of (term ∷ terms) ≡ Some r
stop term terms r some = rw some refl

pub holds : (test : Bool) (cause : Cause) (subject : ℤ) → test ≡ true → when test cause subject ≡ Some (refusal cause subject)
holds test cause subject is = rw is refl

pub fails : (test : Bool) (cause : Cause) (subject : ℤ) → test ≡ false → when test cause subject ≡ None
fails test cause subject is = rw is refl

-- tables with other cursors
abbrev pub with_cursors : Tables → Cursors → Tables
with_cursors tables cursors = record { alloc = tables.alloc; catalog = tables.catalog; rows = tables.rows; chunks = tables.chunks; cursors = cursors }

pub rows_same : (tables : Tables) (cursors : Cursors) → SameRows tables (with_cursors tables cursors)
rows_same tables cursors = record { rows = refl; chunks = refl; catalog = refl }

pub goes_on : (x x' : Transactions) (tables : Tables) (cursors : Cursors) → HoldsOthers x x' → GoWith x tables → GoWith x' (with_cursors tables cursors)
goes_on x x' tables cursors others go = goes_same x' tables (with_cursors tables cursors) (rows_same tables cursors) (with_held tables x x' others go)

pub stands_on : (x x' : Transactions) (tables : Tables) (cursors : Cursors) (ys : List (Edit Deed)) → HoldsOthers x x' → StandFor x tables ys → StandFor x' (with_cursors tables cursors) (ys ++ [])
stands_on x x' tables cursors ys others stand = subst (StandFor x' (with_cursors tables cursors)) (sym (append-nil ys)) (for_same x' tables (with_cursors tables cursors) (rows_same tables cursors) ys (for_held tables x x' ys others stand))

pub keeps_same : (w : World) → IsReady w → Keeps w w
keeps_same w ready = record {
  ready = ready;
  session = refl;
  cursors = λ t apart. refl;
  others = holds_same w.xacts;
  holds = record { rest = λ rest all. all };
  views = omega arith;
}

module _ (w : World) (ready : IsReady w) (x : Transactions) (cursors : Cursors) (closing : Closing) (ends : Ends w.xacts x w.tables.cursors cursors) (left : cursors.entries.items ≡ left_open w.session closing w.tables.cursors.entries.items) where
  pub ends_keeps : Keeps w (world x (with_cursors w.tables cursors) w.session)
  ends_keeps = record {
    ready = record {
      whole = ends.whole ready.whole;
      goes = goes_on w.xacts x w.tables cursors ends.others ready.goes;
      cursors = ends.remain ready.cursors;
      named = rw left (All-filter (λ (c : Cursor). not (closes w.session closing c)) (HasTable w.tables) w.tables.cursors.entries.items ready.named);
    };
    session = refl;
    cursors = λ t apart. ap (own_cursors t) left ∙ others_left w.session t closing apart w.tables.cursors.entries.items;
    others = ends.others;
    holds = ends.holds;
    views = omega (arith, ends.views);
  }

  pub close_done : (name : List ℕ) → ((c : Cursor) → closed_by closing c ≡ bytes_eq c.name name) → is_none (model.cursor_in name (cursors_of w.session w.tables.cursors)) ≡ false → Grants (close_row name) w (world x (with_cursors w.tables cursors) w.session) (Word words.Close)
  close_done name alike there = record { granted = by }
    where
      by : (ys : List (Edit Deed)) → StandFor w.xacts w.tables ys → IsGranted (close_row name (here_of w ys)) w (world x (with_cursors w.tables cursors) w.session) (Word words.Close) ys
      by ys stand = record {
        unrefused = rw there refl;
        answer = refl;
        edits = stands_on w.xacts x w.tables cursors ys ends.others stand;
        tables = refl;
        cursors = ap (own_cursors w.session) left ∙ own_left w.session closing (λ (c : model.Cursor). not (bytes_eq c.name name)) (λ c. ap not (sym (alike c))) w.tables.cursors.entries.items;
      }

pub none_unless : {X : Type 0} (o : Option X) → is_some o ≡ true → is_none o ≡ false
none_unless None is = absurd (false≢true is)
none_unless (Some x) is = refl
