-- The clauses of changing calls, from the searches and from what the body does.
use Rattle.std.proofs.Common.{◌≡◌, ℕ, suc, ◌+◌, ◌-◌, ◌*◌, ◌/◌, ◌<◌, ◌≤◌, true, List, length, Option, Some, None, sym, ◌∙◌, arith}
use Rattle.std.proofs.lemmas.Bool.Decides.{nat_tests}
use Rattle.lo_model.specs.Edit.{Deed, Create, Write, Cut, Unlink, Edit}
use Rattle.lo_model.specs.Touch.{touched, busy_with}
use Rattle.xact_core.specs.Transactions.{Transactions}
use Rattle.lo_pages.specs.Content.{Content, is_written}
use Rattle.lo_pages.specs.Stores.{Stores, PagesStand}
use Rattle.lo_pages.specs.Calls.{search, Spans, NothingAbove, IsMaker, Creates, Writes, Cuts, Drops, AddsEdit, IsBusy}
use Rattle.lo_pages.proofs.Searching.{search_is_busy, spans_from, spans_whole, spans_write}
use Rattle.lo_pages.proofs.Calling.{pages_created, pages_written, pages_cut, pages_dropped}

-- the pages of a write
pub written_span : (b at count : ℕ) → 0 < count → is_written b at count ≡ true → (at / 2048 ≤ b) × (b ≤ (at + count - 1) / 2048)
written_span b at count some is =
    let low : at < 2048 * b + 2048 = grind (arith, nat_tests, is) in
    let high : 2048 * b < at + count = grind (arith, nat_tests, is) in
    (omega (arith, low), omega (arith, high, some))

pub span_written_in : (b at count : ℕ) → 0 < count → at / 2048 ≤ b → b ≤ (at + count - 1) / 2048 → is_written b at count ≡ true
span_written_in b at count some first last =
    let low : at < 2048 * b + 2048 = omega (arith, first) in
    let high : 2048 * b < at + count = omega (arith, last, some) in
    grind (arith, nat_tests, low, high)

module _ {P : Type 0} (value : ℕ → P → Option Content) (x : Transactions) (s o : ℕ) (old new : Stores P) where
  pub busy_call : (deed : Deed) (first last t : ℕ) → Spans old (touched deed) o first last → search s x old o first (suc last - first) (suc last) ≡ Some t → IsBusy value x s deed old t
  busy_call deed first last t spans found = record { held = λ ys stands. sym (search_is_busy value x old ys stands s (touched deed) o first last spans) ∙ found }

  free_call : (deed : Deed) (first last : ℕ) → Spans old (touched deed) o first last → search s x old o first (suc last - first) (suc last) ≡ None → (ys : List (Edit Deed)) → PagesStand value x old ys → busy_with s (touched deed) ys ≡ None
  free_call deed first last spans none ys stands = sym (search_is_busy value x old ys stands s (touched deed) o first last spans) ∙ none

  -- `last` is the last number that a page can have
  pub create_adds : (last : ℕ) → IsMaker x s → NothingAbove old o last → search s x old o 0 (suc last - 0) (suc last) ≡ None → Creates x s o old new → AddsEdit value x s (Create o) old new
  create_adds last maker none found by = record { step = λ ys stands. (let free : busy_with s (touched (Create o)) ys ≡ None = free_call (Create o) 0 last (spans_whole old o last none) found ys stands in (free, pages_created value x s o old new ys maker stands by free)) }

  pub drop_adds : (last : ℕ) → IsMaker x s → NothingAbove old o last → search s x old o 0 (suc last - 0) (suc last) ≡ None → Drops value x s o old new → AddsEdit value x s (Unlink o) old new
  drop_adds last maker none found by = record { step = λ ys stands. (let free : busy_with s (touched (Unlink o)) ys ≡ None = free_call (Unlink o) 0 last (spans_whole old o last none) found ys stands in (free, pages_dropped value x s o old new ys maker stands by free)) }

  pub cut_adds : (n last : ℕ) → IsMaker x s → n / 2048 ≤ last → NothingAbove old o last → search s x old o (n / 2048) (suc last - n / 2048) (suc last) ≡ None → Cuts value x s o n old new → AddsEdit value x s (Cut o n) old new
  cut_adds n last maker order none found by = record { step = λ ys stands. (let free : busy_with s (touched (Cut o n)) ys ≡ None = free_call (Cut o n) (n / 2048) last (spans_from old o (n / 2048) last order none) found ys stands in (free, pages_cut value x s o old new ys maker stands n by free)) }

  pub write_adds : (at : ℕ) (bytes : List ℕ) → IsMaker x s → search s x old o (at / 2048) (suc ((at + length bytes - 1) / 2048) - at / 2048) (suc ((at + length bytes - 1) / 2048)) ≡ None → Writes value x s o at bytes old new → AddsEdit value x s (Write o at bytes) old new
  write_adds at bytes maker found by = record { step = λ ys stands. (let free : busy_with s (touched (Write o at bytes)) ys ≡ None = free_call (Write o at bytes) (at / 2048) ((at + length bytes - 1) / 2048) (spans_write old o at bytes by.some) found ys stands in (free, pages_written value x s o old new ys maker stands at bytes by free)) }
