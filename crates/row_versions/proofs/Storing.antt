-- A vacuum of the unsettled keys, one after the other, is one of all keys.
use Rattle.std.proofs.Common.{◌≡◌, ◌≢◌, ◌⊎◌, inl, inr, Bool, true, false, cond, List, [], ◌∷◌, ◌++◌, map, Option, Some, None, refl, ap, sym, subst, ◌∙◌}
use Rattle.std.specs.Prelude.{not, ◌||◌, filter}
use Rattle.std.specs.Cmp.{IsTotalOrder}
use Rattle.std.specs.List.{list_any}
use Rattle.std.specs.Ordering.{is_eq}
use Rattle.std.specs.BTreeMap.{BTreeMap, is_at}
use Rattle.std.specs.declared.alloc.Global.{Global}
use Rattle.std.specs.declared.vec.Vec.{Vec}
use Rattle.std.specs.declared.cmp.Ordering.{Ordering}
use Rattle.std.proofs.lemmas.Bool.{false≢true}
use Rattle.std.proofs.lemmas.Cmp.{tied_itself}
use Rattle.std.proofs.lemmas.List.{map-append}
use Rattle.std.proofs.lemmas.Map.Lookups.{CmpEqualImpliesEq}
use Rattle.std.proofs.lemmas.Map.Views.{tells_apart}
use Rattle.lo_model.specs.declared.owner.Owner.{Owner}
use Rattle.lo_model.specs.declared.owner.Owner.TheVariants.{Running, Committed}
use Rattle.xact_core.specs.Stamp.{owner_of}
use Rattle.xact_core.specs.Transactions.{Transactions}
use Rattle.row_versions.specs.declared.chain.Entry.{Entry}
use Rattle.row_versions.specs.Found.{is_erasure, is_settled, is_put_by}
use Rattle.row_versions.specs.Stack.{IsStack}
use Rattle.row_versions.specs.Store.{is_among, is_empty_at, HasNoEmpty, VacuumsKeys}
use Rattle.row_versions.specs.Stands.{Version, standing, IsSettled, IsPutBy, vacuumed}
use Rattle.row_versions.proofs.Again.{vacuumed_again}
use Rattle.row_versions.proofs.Laws.{settled_stays}

first_or : (a b : Bool) → (a || b) ≡ true → b ≡ false → a ≡ true
first_or true b both nay = refl
first_or false true both nay = absurd (false≢true (sym nay))
first_or false false both nay = absurd (false≢true both)

none_of : (a b : Bool) → (a || b) ≡ false → (a ≡ false) × (b ≡ false)
none_of true b nay = absurd (false≢true (sym nay))
none_of false b nay = (refl, nay)

any_end : {X : Type 0} (test : X → Bool) (xs : List X) (x : X) → list_any test (xs ++ x ∷ []) ≡ (list_any test xs || test x)
any_end test [] x = by_test (test x)
  where
    by_test : (b : Bool) → (b || false) ≡ b
    by_test true = refl
    by_test false = refl
any_end test (y ∷ ys) x = by_test (test y) (any_end test ys x)
  where
    by_test : (b : Bool) → list_any test (ys ++ x ∷ []) ≡ (list_any test ys || test x) → (b || list_any test (ys ++ x ∷ [])) ≡ ((b || list_any test ys) || test x)
    by_test true rest = refl
    by_test false rest = rest

-- the keys of which a loop has told, read from what it took
pub keys_told : {B K : Type 0} (read : B → K) (done : List B) (key : B) (all rest left : List K) → map read done ++ left ≡ all → left ≡ read key ∷ rest → map read (done ++ key ∷ []) ++ rest ≡ all
keys_told {B} {K} read done key all rest left so_far is = one_more done ∙ (ap (λ (ks : List K). map read done ++ ks) (sym is) ∙ so_far)
  where
    one_more : (bs : List B) → map read (bs ++ key ∷ []) ++ rest ≡ map read bs ++ (read key ∷ rest)
    one_more [] = refl
    one_more (b ∷ bs) = ap (λ (ks : List K). read b ∷ ks) (one_more bs)

pub settled_is : {D : Type 0} (x : Transactions) (vs : List (Version (Option D))) → is_settled x vs ≡ true → IsSettled is_erasure x vs
settled_is x [] is = tt
settled_is x (v ∷ (w ∷ vs)) is = absurd (false≢true is)
settled_is {D} x (v ∷ []) is = by_owner (owner_of x v.stamp) v.deed is
  where
    not_true : (b : Bool) → not b ≡ true → b ≡ false
    not_true true is = absurd (false≢true is)
    not_true false is = refl

    by_owner : (o : Option Owner) (content : Option D) → is_put_by o content ≡ true → IsPutBy is_erasure o content
    by_owner None content is = absurd (false≢true is)
    by_owner (Some (Running s l)) content is = absurd (false≢true is)
    by_owner (Some (Committed c)) content is = not_true (is_erasure content) is

module _ {K : Type 0} (cmp : K → K → Ordering) (total : IsTotalOrder cmp) (exact : CmpEqualImpliesEq cmp) where
  -- two keys are one, or they are not
  pub same_or_not : (a b : K) → (a ≡ b) ⊎ (a ≡ b → ⊥)
  same_or_not a b = by_test (is_eq (cmp a b)) refl
    where
      by_test : (c : Bool) → is_eq (cmp a b) ≡ c → (a ≡ b) ⊎ (a ≡ b → ⊥)
      by_test true is = inl (tells_apart exact a b is)
      by_test false is = inr (λ same. false≢true (sym is ∙ (ap (λ (k : K). is_eq (cmp a k)) (sym same) ∙ ap is_eq (tied_itself total a))))

  pub key_itself : (a : K) → is_at (cmp a) a ≡ true
  key_itself a = ap is_eq (tied_itself total a)

  pub key_apart : (a b : K) → (a ≡ b → ⊥) → is_at (cmp a) b ≡ false
  key_apart a b apart = by_test (is_at (cmp a) b) refl
    where
      by_test : (c : Bool) → is_at (cmp a) b ≡ c → c ≡ false
      by_test true is = absurd (apart (tells_apart exact a b is))
      by_test false is = refl

  -- no key is left without versions where one has some and the others are as they were
  pub full_next : {D : Type 0} (key : K) (old new : BTreeMap K (Vec (Entry D) Global)) → is_empty_at cmp new key ≡ false → ((k : K) → k ≢ key → is_empty_at cmp new k ≡ is_empty_at cmp old k) → HasNoEmpty cmp old → HasNoEmpty cmp new
  full_next {D} key old new here others was = record { none = λ k. by_key k (same_or_not k key) }
    where
      by_key : (k : K) → (k ≡ key) ⊎ (k ≡ key → ⊥) → is_empty_at cmp new k ≡ false
      by_key k (inl same) = ap (is_empty_at cmp new) same ∙ here
      by_key k (inr apart) = others k apart ∙ was.none k

  -- the keys that stay listed

  kept_key : (test : K → Bool) (keys : List K) (key : K) → is_among cmp keys key ≡ true → test key ≡ true → is_among cmp (filter test keys) key ≡ true
  kept_key test [] key here passes = here
  kept_key test (k ∷ ks) key here passes = by_first (is_at (cmp key) k) refl here (kept_key test ks key)
    where
      by_test : (b : Bool) → is_among cmp (filter test ks) key ≡ true → is_among cmp (cond b (k ∷ filter test ks) (filter test ks)) key ≡ true
      by_test true rest = by_same (is_at (cmp key) k) rest
        where
          by_same : (c : Bool) → is_among cmp (filter test ks) key ≡ true → (c || is_among cmp (filter test ks) key) ≡ true
          by_same true rest = refl
          by_same false rest = rest
      by_test false rest = rest

      first_passes : is_at (cmp key) k ≡ true → test k ≡ true
      first_passes same = ap test (sym (tells_apart exact key k same)) ∙ passes

      by_first : (b : Bool) → is_at (cmp key) k ≡ b → (b || is_among cmp ks key) ≡ true → (is_among cmp ks key ≡ true → test key ≡ true → is_among cmp (filter test ks) key ≡ true) → is_among cmp (filter test (k ∷ ks)) key ≡ true
      by_first true same here left = rw (first_passes same, same) refl
      by_first false apart here left = by_test (test k) (left here passes)

  module _ {D : Type 0} (x : Transactions) where
    pub keys_none : (old : K → List (Version (Option D))) → VacuumsKeys cmp x [] old old
    keys_none old = record { here = λ key is. absurd (false≢true is); others = λ key apart. refl }

    pub keys_next : (keys : List K) (n : K) (old now new : K → List (Version (Option D))) → VacuumsKeys cmp x keys old now → new n ≡ vacuumed is_erasure x (now n) → ((k : K) → k ≢ n → new k ≡ now k) → VacuumsKeys cmp x (keys ++ n ∷ []) old new
    keys_next keys n old now new so_far here others = record { here = λ key listed. by_equal key listed (same_or_not key n); others = λ key apart. unlisted key apart (same_or_not key n) }
      where
        was_or_again : (b : Bool) → is_among cmp keys n ≡ b → vacuumed is_erasure x (now n) ≡ vacuumed is_erasure x (old n)
        was_or_again true listed = ap (vacuumed is_erasure x) (so_far.here n listed) ∙ vacuumed_again is_erasure x (old n)
        was_or_again false apart = ap (vacuumed is_erasure x) (so_far.others n apart)

        by_equal : (key : K) → is_among cmp (keys ++ n ∷ []) key ≡ true → (key ≡ n) ⊎ (key ≡ n → ⊥) → new key ≡ vacuumed is_erasure x (old key)
        by_equal key listed (inl same) = subst (λ (k : K). new k ≡ vacuumed is_erasure x (old k)) (sym same) (here ∙ was_or_again (is_among cmp keys n) refl)
        by_equal key listed (inr apart) = others key apart ∙ so_far.here key (first_or (is_among cmp keys key) (is_at (cmp key) n) (sym (any_end (is_at (cmp key)) keys n) ∙ listed) (key_apart key n apart))

        unlisted : (key : K) → is_among cmp (keys ++ n ∷ []) key ≡ false → (key ≡ n) ⊎ (key ≡ n → ⊥) → new key ≡ old key
        unlisted key nay (inl same) = absurd (false≢true (sym (none_of (is_among cmp keys key) (is_at (cmp key) n) (sym (any_end (is_at (cmp key)) keys n) ∙ nay)).1 ∙ (ap (is_at (cmp key)) (sym same) ∙ key_itself key)))
        unlisted key nay (inr apart) = others key apart ∙ so_far.others key (none_of (is_among cmp keys key) (is_at (cmp key) n) (sym (any_end (is_at (cmp key)) keys n) ∙ nay)).0

    pub key_told : {B : Type 0} (read : B → K) (done : List B) (key : B) (old now new : K → List (Version (Option D))) → VacuumsKeys cmp x (map read done) old now → new (read key) ≡ vacuumed is_erasure x (now (read key)) → ((k : K) → k ≢ read key → new k ≡ now k) → VacuumsKeys cmp x (map read (done ++ key ∷ [])) old new
    key_told read done key old now new so_far here others = subst (λ (ks : List K). VacuumsKeys cmp x ks old new) (sym (map-append read done (key ∷ []))) (keys_next (map read done) (read key) old now new so_far here others)

    -- where each key is settled or listed, all keys are vacuumed
    pub all_keys : (keys : List K) (old new : K → List (Version (Option D))) → ((key : K) → IsStack x (standing x (old key))) → ((key : K) → IsSettled is_erasure x (old key) ⊎ (is_among cmp keys key ≡ true)) → VacuumsKeys cmp x keys old new → (key : K) → new key ≡ vacuumed is_erasure x (old key)
    all_keys keys old new stacks lists vacuums key = by_listed (is_among cmp keys key) refl (lists key)
      where
        by_listed : (b : Bool) → is_among cmp keys key ≡ b → IsSettled is_erasure x (old key) ⊎ (is_among cmp keys key ≡ true) → new key ≡ vacuumed is_erasure x (old key)
        by_listed true is which = vacuums.here key is
        by_listed false nay (inl settled) = vacuums.others key nay ∙ sym (settled_stays is_erasure x (old key) settled (stacks key))
        by_listed false nay (inr is) = absurd (false≢true (sym nay ∙ is))

    -- after a vacuum each key is settled or still listed
    pub still_listed : (keys keys' : List K) (old new : K → List (Version (Option D))) → ((key : K) → IsStack x (standing x (old key))) → ((key : K) → IsSettled is_erasure x (old key) ⊎ (is_among cmp keys key ≡ true)) → VacuumsKeys cmp x keys old new → keys' ≡ filter (λ key. not (is_settled x (new key))) keys → (key : K) → IsSettled is_erasure x (new key) ⊎ (is_among cmp keys' key ≡ true)
    still_listed keys keys' old new stacks lists vacuums is key = by_settled (is_settled x (new key)) refl
      where
        by_old : is_settled x (new key) ≡ false → IsSettled is_erasure x (old key) ⊎ (is_among cmp keys key ≡ true) → IsSettled is_erasure x (new key) ⊎ (is_among cmp keys' key ≡ true)
        by_old not_yet (inl settled) = inl (subst (λ (vs : List (Version (Option D))). IsSettled is_erasure x vs) (sym (all_keys keys old new stacks lists vacuums key ∙ settled_stays is_erasure x (old key) settled (stacks key))) settled)
        by_old not_yet (inr here) = inr (ap (λ (ks : List K). is_among cmp ks key) is ∙ kept_key (λ k. not (is_settled x (new k))) keys key here (rw not_yet refl))

        by_settled : (b : Bool) → is_settled x (new key) ≡ b → IsSettled is_erasure x (new key) ⊎ (is_among cmp keys' key ≡ true)
        by_settled true settled = inl (settled_is x (new key) settled)
        by_settled false not_yet = by_old not_yet (lists key)
