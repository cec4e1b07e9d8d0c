-- Which keys of pages stand before which.
use Rattle.std.proofs.Common.{◌≡◌, ◌≢◌, ℕ, ◌<◌, ◌≤◌, ◌⊎◌, inl, inr, false, refl, ap, sym, subst, ◌∙◌, arith}
use Rattle.std.specs.Ordering.{nat_cmp, is_gt}
use Rattle.std.specs.declared.cmp.Ordering.TheVariants.{Less, Equal, Greater}
use Rattle.std.specs.Cmp.{nat_cmp_is}
use Rattle.std.specs.BTreeMap.Range.{IsLeBy}
use Rattle.std.proofs.lemmas.Bool.{false≢true, cases_order}
use Rattle.lo_pages.specs.declared.page_key.PageKey.{PageKey}
use Rattle.lo_pages.specs.Keys.{key_cmp, page_key}

under : (a b : ℕ) → a < b → nat_cmp a b ≡ Less
under a b less = sym (nat_cmp_is a b Less less)

itself : (a : ℕ) → nat_cmp a a ≡ Equal
itself a = sym (nat_cmp_is a a Equal refl)

over : (a b : ℕ) → b < a → nat_cmp a b ≡ Greater
over a b less = sym (nat_cmp_is a b Greater less)

pub le_pages : (o a b : ℕ) → a ≤ b → IsLeBy key_cmp (page_key o a) (page_key o b)
le_pages o a b less = rw (itself o) (by_order (cases_order a b))
  where
    by_order : (a ≡ b) ⊎ ((a < b) ⊎ (b < a)) → is_gt (nat_cmp a b) ≡ false
    by_order (inl same) = subst (λ (c : ℕ). is_gt (nat_cmp a c) ≡ false) same (rw (itself a) refl)
    by_order (inr (inl low)) = rw (under a b low) refl
    by_order (inr (inr high)) = absurd (omega (arith, less, high))

pub pages_le : (o a b : ℕ) → IsLeBy key_cmp (page_key o a) (page_key o b) → a ≤ b
pages_le o a b least = by_order (cases_order a b)
  where
    inner : is_gt (nat_cmp a b) ≡ false
    inner = sym (rw (itself o) refl) ∙ least

    by_order : (a ≡ b) ⊎ ((a < b) ⊎ (b < a)) → a ≤ b
    by_order (inl same) = omega (arith, same)
    by_order (inr (inl low)) = omega (arith, low)
    by_order (inr (inr high)) = absurd (false≢true (sym inner ∙ rw (over a b high) refl))

pub le_oids : (j k : PageKey) → IsLeBy key_cmp j k → j.oid ≤ k.oid
le_oids j k least = by_order (cases_order j.oid k.oid)
  where
    by_order : (j.oid ≡ k.oid) ⊎ ((j.oid < k.oid) ⊎ (k.oid < j.oid)) → j.oid ≤ k.oid
    by_order (inl same) = omega (arith, same)
    by_order (inr (inl low)) = omega (arith, low)
    by_order (inr (inr high)) = absurd (false≢true (sym least ∙ rw (over j.oid k.oid high) refl))

pub key_is : (o : ℕ) (k : PageKey) → k.oid ≡ o → k ≡ page_key o k.number
key_is o k same = ap (λ (p : ℕ). page_key p k.number) same

pub keys_apart : (o j p b : ℕ) → ((p ≡ o) → (b ≡ j) → ⊥) → page_key p b ≢ page_key o j
keys_apart o j p b apart same = apart (ap (λ (k : PageKey). k.oid) same) (ap (λ (k : PageKey). k.number) same)
