-- One version more at one key, and what that leaves of the rest.
use Rattle.std.proofs.Common.{◌≡◌, ◌≢◌, ℕ, ◌≤◌, ◌⊎◌, inl, inr, List, [], ◌∷◌, ◌++◌, Option, refl, ap, sym, subst, ◌∙◌, arith, append-nil, append_assoc}
use Rattle.std.specs.Prelude.{Result, OnOk, OnErr}
use Rattle.std.specs.Prelude.{Ok, Err}
use Rattle.std.specs.Ordering.{nat_cmp}
use Rattle.std.specs.declared.cmp.Ordering.{Ordering}
use Rattle.std.proofs.lemmas.Bool.{cases_eq}
use Rattle.xact_core.specs.Transactions.{Transactions}
use Rattle.row_versions.specs.Stands.{Version, AddsOwn, IsNew}
use Rattle.row_versions.specs.Store.{versions_at, AddsVersion, SameVersions, GoesWith}
use Rattle.row_versions.specs.declared.store.Store.{Store}
use Rattle.lo_pages.specs.declared.page_key.PageKey.{PageKey}
use Rattle.lo_pages.specs.declared.pages.Pages.{Pages}
use Rattle.lo_pages.specs.Calls.{PutsOne}
use Rattle.lo_pages.specs.Keys.{key_cmp, page_key}
use Rattle.lo_pages.specs.Outcome.{LeavesOwn}
use Rattle.lo_pages.specs.Standing.{GoWith, last_number, page_value}
use Rattle.lo_pages.specs.Steps.{PutsObject, PutsPage, PutsCut}
use Rattle.lo_pages.specs.Stores.{there, no_value}
use Rattle.lo_pages.proofs.Keys.{keys_apart}
use Rattle.lo_pages.proofs.Rest.{each_joined}

pub own_same : {D : Type 0} (x : Transactions) (s : ℕ) (old new : List (Version D)) → new ≡ old → AddsOwn x s old new
own_same x s old new same = record { more = []; is = same ∙ sym (append-nil old); own = tt }

own_more : {D : Type 0} (x : Transactions) (s : ℕ) (old mid new : List (Version D)) → AddsOwn x s old mid → AddsOwn x s mid new → AddsOwn x s old new
own_more {D} x s old mid new first second = record {
  more = first.more ++ second.more;
  is = second.is ∙ (ap (λ (vs : List (Version D)). vs ++ second.more) first.is ∙ append_assoc old first.more second.more);
  own = each_joined (IsNew x s) first.more second.more first.own second.own;
}

pub left_none : (x : Transactions) (s : ℕ) (store : Pages) → LeavesOwn x s store store
left_none x s store = record {
  adds = record {
    objects = λ o. own_same x s _ _ refl;
    pages = λ o b. own_same x s _ _ refl;
    cuts = λ o b. own_same x s _ _ refl;
  };
}

pub left_more : (x : Transactions) (s : ℕ) (old mid new : Pages) → LeavesOwn x s old mid → LeavesOwn x s mid new → LeavesOwn x s old new
left_more x s old mid new first second = record {
  adds = record {
    objects = λ o. own_more x s _ _ _ (first.adds.objects o) (second.adds.objects o);
    pages = λ o b. own_more x s _ _ _ (first.adds.pages o b) (second.adds.pages o b);
    cuts = λ o b. own_more x s _ _ _ (first.adds.cuts o b) (second.adds.cuts o b);
  };
}

-- whether a key is the one that changed
same_key : (p b o j : ℕ) → ((p ≡ o) × (b ≡ j)) ⊎ (p ≡ o → b ≡ j → ⊥)
same_key p b o j = elim (cases_eq p o) [
  | inl is ↦ elim (cases_eq b j) [
    | inl at ↦ inl (is, at)
    | inr apart ↦ inr (λ is at. apart at)
  ]
  | inr apart ↦ inr (λ is at. apart is)
]

module _ {K D : Type 0} (cmp : K → K → Ordering) (x : Transactions) (s : ℕ) (key : K) (deed : Option D) (old new : Store K D) where
  pub added_own : AddsVersion cmp x s key deed old new → (k : K) → (k ≡ key) ⊎ (k ≢ key) → AddsOwn x s (versions_at cmp old k) (versions_at cmp new k)
  added_own adds k (inl is) = subst (λ (q : K). AddsOwn x s (versions_at cmp old q) (versions_at cmp new q)) (sym is) (record { more = adds.version ∷ []; is = adds.here; own = (adds.is_new, tt) })
  added_own adds k (inr apart) = own_same x s _ _ (adds.others k apart)

  pub put_own : {A E : Type 0} (r : Result A E) → (k : K) → (k ≡ key) ⊎ (k ≢ key) → OnOk r (AddsVersion cmp x s key deed old new) → OnErr r (SameVersions cmp old new) → AddsOwn x s (versions_at cmp old k) (versions_at cmp new k)
  put_own (Ok u) k at adds same = added_own adds k at
  put_own (Err e) k at adds same = own_same x s _ _ (same.same k)

  pub puts_one : {S : Type 0} (value : ℕ → Option D → S) → AddsVersion cmp x s key deed old new → PutsOne x s value (value x.clock deed) (versions_at cmp old key) (versions_at cmp new key)
  puts_one value adds = record { put = adds.version; is_new = adds.is_new; gives = ap (value x.clock) adds.deed_is; is = adds.here }

apart_from : (o j p b : ℕ) → ((p ≡ o) × (b ≡ j)) ⊎ (p ≡ o → b ≡ j → ⊥) → (page_key p b ≡ page_key o j) ⊎ (page_key p b ≢ page_key o j)
apart_from o j p b (inl is) = inl (ap (λ (q : ℕ). page_key q b) is.0 ∙ ap (λ (c : ℕ). page_key o c) is.1)
apart_from o j p b (inr apart) = inr (keys_apart o j p b apart)

module _ (x : Transactions) (s : ℕ) (old : Pages) (deed : Option (List ℕ)) where
  -- a page

  pub page_put : {A E : Type 0} (r : Result A E) (o j : ℕ) (q : Store PageKey (List ℕ)) → OnOk r (AddsVersion key_cmp x s (page_key o j) deed old.pages q) → OnOk r (PutsPage x s o j (page_value x.clock deed) old (record old { pages = q }))
  page_put (Err e) o j q adds = adds
  page_put (Ok u) o j q adds = record {
    puts = puts_one key_cmp x s (page_key o j) deed old.pages q page_value adds;
    others = λ b apart. adds.others (page_key o b) (keys_apart o j o b (λ is at. apart at));
    only = record { objects = λ p. refl; pages = λ p b apart. adds.others (page_key p b) (keys_apart o j p b (λ is at. apart is)); cuts = λ p b. refl };
  }

  pub page_left : {A E : Type 0} (r : Result A E) (o j : ℕ) (q : Store PageKey (List ℕ)) → OnOk r (AddsVersion key_cmp x s (page_key o j) deed old.pages q) → OnErr r (SameVersions key_cmp old.pages q) → LeavesOwn x s old (record old { pages = q })
  page_left r o j q ok err = record {
    adds = record {
      objects = λ p. own_same x s _ _ refl;
      pages = λ p b. put_own key_cmp x s (page_key o j) deed old.pages q r (page_key p b) (apart_from o j p b (same_key p b o j)) ok err;
      cuts = λ p b. own_same x s _ _ refl;
    };
  }

  key_still : {A E : Type 0} (r : Result A E) (was now : Store PageKey (List ℕ)) (o j p b : ℕ) → (p ≡ o → b ≡ j → ⊥) → OnOk r (AddsVersion key_cmp x s (page_key o j) deed was now) → OnErr r (SameVersions key_cmp was now) → versions_at key_cmp now (page_key p b) ≡ versions_at key_cmp was (page_key p b)
  key_still (Ok u) was now o j p b apart ok err = ok.others (page_key p b) (keys_apart o j p b apart)
  key_still (Err e) was now o j p b apart ok err = err.same (page_key p b)

  pub page_goes : {A E : Type 0} (r : Result A E) (o j : ℕ) (q : Store PageKey (List ℕ)) → j ≤ last_number → OnOk r (AddsVersion key_cmp x s (page_key o j) deed old.pages q) → OnErr r (SameVersions key_cmp old.pages q) → GoesWith key_cmp x q → GoWith x old → GoWith x (record old { pages = q })
  page_goes r o j q small ok err goes go = record {
    objects = go.objects;
    pages = goes;
    cuts = go.cuts;
    above = λ p. record {
      pages = λ b more. key_still r old.pages q o j p b (λ is at. omega (arith, at, more, small)) ok err ∙ (go.above p).pages b more;
      cuts = λ b more. (go.above p).cuts b more;
    };
  }

  -- a mark of a cut

  pub cut_put : {A E : Type 0} (r : Result A E) (o j : ℕ) (q : Store PageKey (List ℕ)) → OnOk r (AddsVersion key_cmp x s (page_key o j) deed old.cuts q) → OnOk r (PutsCut x s o j old (record old { cuts = q }))
  cut_put (Err e) o j q adds = adds
  cut_put (Ok u) o j q adds = record {
    puts = puts_one key_cmp x s (page_key o j) deed old.cuts q no_value adds;
    only = record { objects = λ p. refl; pages = λ p b. refl; cuts = λ p b apart. adds.others (page_key p b) (keys_apart o j p b apart) };
  }

  pub cut_left : {A E : Type 0} (r : Result A E) (o j : ℕ) (q : Store PageKey (List ℕ)) → OnOk r (AddsVersion key_cmp x s (page_key o j) deed old.cuts q) → OnErr r (SameVersions key_cmp old.cuts q) → LeavesOwn x s old (record old { cuts = q })
  cut_left r o j q ok err = record {
    adds = record {
      objects = λ p. own_same x s _ _ refl;
      pages = λ p b. own_same x s _ _ refl;
      cuts = λ p b. put_own key_cmp x s (page_key o j) deed old.cuts q r (page_key p b) (apart_from o j p b (same_key p b o j)) ok err;
    };
  }

  pub cut_goes : {A E : Type 0} (r : Result A E) (o j : ℕ) (q : Store PageKey (List ℕ)) → j ≤ last_number → OnOk r (AddsVersion key_cmp x s (page_key o j) deed old.cuts q) → OnErr r (SameVersions key_cmp old.cuts q) → GoesWith key_cmp x q → GoWith x old → GoWith x (record old { cuts = q })
  cut_goes r o j q small ok err goes go = record {
    objects = go.objects;
    pages = go.pages;
    cuts = goes;
    above = λ p. record {
      pages = λ b more. (go.above p).pages b more;
      cuts = λ b more. key_still r old.cuts q o j p b (λ is at. omega (arith, at, more, small)) ok err ∙ (go.above p).cuts b more;
    };
  }

  -- an object

  pub object_put : {A E : Type 0} (r : Result A E) (o : ℕ) (q : Store ℕ (List ℕ)) → OnOk r (AddsVersion nat_cmp x s o deed old.objects q) → OnOk r (PutsObject x s o (there x.clock deed) old (record old { objects = q }))
  object_put (Err e) o q adds = adds
  object_put (Ok u) o q adds = record {
    puts = puts_one nat_cmp x s o deed old.objects q there adds;
    only = record { objects = λ p apart. adds.others p apart; pages = λ p b. refl; cuts = λ p b. refl };
  }

  pub object_left : {A E : Type 0} (r : Result A E) (o : ℕ) (q : Store ℕ (List ℕ)) → OnOk r (AddsVersion nat_cmp x s o deed old.objects q) → OnErr r (SameVersions nat_cmp old.objects q) → LeavesOwn x s old (record old { objects = q })
  object_left r o q ok err = record {
    adds = record {
      objects = λ p. put_own nat_cmp x s o deed old.objects q r p (cases_eq p o) ok err;
      pages = λ p b. own_same x s _ _ refl;
      cuts = λ p b. own_same x s _ _ refl;
    };
  }

  pub object_goes : (q : Store ℕ (List ℕ)) → GoesWith nat_cmp x q → GoWith x old → GoWith x (record old { objects = q })
  object_goes q goes go = record { objects = goes; pages = go.pages; cuts = go.cuts; above = λ p. record { pages = (go.above p).pages; cuts = (go.above p).cuts } }
