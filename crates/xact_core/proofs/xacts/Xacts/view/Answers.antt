use Rattle.std.proofs.Common.{ℕ, ◌+◌, ◌-◌, ◌<◌, ◌≤◌, ◌≡◌, length, refl, List, Some, None, map, ap, sym, subst, ◌∙◌, arith}
use Rattle.std.specs.Prelude.{slice_get, sum_by}
use Rattle.std.proofs.lemmas.Option.{slice_get_read}
use Rattle.xact_core.specs.Inside.{names_of, views_in}
use Rattle.xact_core.specs.Kept.{sessions_views, kept_views}
use Rattle.xact_core.specs.Opened.{Opened}
use Rattle.xact_core.specs.Transactions.{Transactions}
use Rattle.xact_core.proofs.Contracts.{count_there}
use Rattle.xact_core.proofs.ViewOrder.{contains_at, kept_open, open_past, kept_held}
use Rattle.xact_core.proofs.xacts.Xacts.view.Goals as goal

pub overflow_sub-place : goal.overflow_sub-place
overflow_sub-place c =
    let none : slice_get (sessions_views (c.self.inside.clock + 1) 1 (map names_of c.self.inside.sessions.items)) c.in-Some.place ≡ None = subst (λ (xs : List Opened). slice_get (sessions_views (c.self.inside.clock + 1) 1 (map names_of xs)) c.in-Some.place ≡ None) c.deref.ensures.value (sym c.open_view.ensures ∙ c.in-None.is) in
    omega (arith, open_past c.self.inside c.in-Some.place none, c.open_views.ensures, ap (sum_by views_in) c.deref-in-None.ensures.value)

pub index-requires : goal.index-requires
index-requires c =
    let none : slice_get (sessions_views (c.self.inside.clock + 1) 1 (map names_of c.self.inside.sessions.items)) c.in-Some.place ≡ None = subst (λ (xs : List Opened). slice_get (sessions_views (c.self.inside.clock + 1) 1 (map names_of xs)) c.in-Some.place ≡ None) c.deref.ensures.value (sym c.open_view.ensures ∙ c.in-None.is) in
    omega (arith, open_past c.self.inside c.in-Some.place none, c.open_views.ensures, ap (sum_by views_in) c.deref-in-None.ensures.value, count_there c.self.inside c.args.self.now c.self.view_is, c.requires, c.in-Some.ensures)

pub returns-in-Some-open_view-clause-view : goal.returns-in-Some-open_view-clause-view
returns-in-Some-open_view-clause-view c =
    let found : slice_get (sessions_views (c.self.inside.clock + 1) 1 (map names_of c.self.inside.sessions.items)) c.in-Some.place ≡ Some c.in-Some-open_view.view = subst (λ (xs : List Opened). slice_get (sessions_views (c.self.inside.clock + 1) 1 (map names_of xs)) c.in-Some.place ≡ Some c.in-Some-open_view.view) c.deref.ensures.value (sym c.open_view.ensures ∙ c.in-Some-open_view.is) in
    subst (λ (v : Transactions). slice_get (kept_views v) c.args.k ≡ Some c.in-Some-open_view.view) c.self.view_is (kept_open c.self.inside c.args.k c.in-Some.place _ (omega (arith, c.in-Some.ensures)) found)

pub returns-in-None-clause-view : goal.returns-in-None-clause-view
returns-in-None-clause-view c =
    let none : slice_get (sessions_views (c.self.inside.clock + 1) 1 (map names_of c.self.inside.sessions.items)) c.in-Some.place ≡ None = subst (λ (xs : List Opened). slice_get (sessions_views (c.self.inside.clock + 1) 1 (map names_of xs)) c.in-Some.place ≡ None) c.deref.ensures.value (sym c.open_view.ensures ∙ c.in-None.is) in
    let count : c.open_views.result ≡ sum_by views_in c.self.inside.sessions.items = c.open_views.ensures ∙ ap (sum_by views_in) c.deref-in-None.ensures.value in
    let past : sum_by views_in c.self.inside.sessions.items ≤ c.in-Some.place = open_past c.self.inside c.in-Some.place none in
    let within : c.in-Some.place - c.open_views.result < length c.self.inside.held.items = omega (arith, past, count, count_there c.self.inside c.args.self.now c.self.view_is, c.requires, c.in-Some.ensures) in
    let read : slice_get c.self.inside.held.items (c.in-Some.place - sum_by views_in c.self.inside.sessions.items) ≡ Some c.index.result.now = subst (λ (n : ℕ). slice_get c.self.inside.held.items (c.in-Some.place - n) ≡ Some c.index.result.now) count (slice_get_read c.self.inside.held.items (length c.self.inside.held.items) (c.in-Some.place - c.open_views.result) c.index.result.now refl within c.index.ensures) in
    subst (λ (v : Transactions). slice_get (kept_views v) c.args.k ≡ Some c.index.result.now) c.self.view_is (kept_held c.self.inside c.args.k c.in-Some.place _ (omega (arith, c.in-Some.ensures)) past read)

pub returns-in-Some-open_view-clause-kept : goal.returns-in-Some-open_view-clause-kept
returns-in-Some-open_view-clause-kept c = contains_at (kept_views c.args.self.now) c.args.k c.in-Some-open_view.view (returns-in-Some-open_view-clause-view c)

pub returns-in-None-clause-kept : goal.returns-in-None-clause-kept
returns-in-None-clause-kept c = contains_at (kept_views c.args.self.now) c.args.k c.index.result.now (returns-in-None-clause-view c)
