-- What a comparison of keys says of their distances.
use Rattle.std.proofs.Common.{◌≡◌, ℕ, ◌<◌, ◌≤◌, true, false, List, length, get_or, sym, refl, ◌∙◌, subst, arith, rules}
use Rattle.std.proofs.lemmas.List.{get_or_default}
use Rattle.heap.specs.Least.{IsHeap, before}
use Rattle.heap.specs.Calls.{NotLower}
use Rattle.heap.specs.declared.LowerError.{LowerError}
use Rattle.heap.specs.declared.LowerError.TheVariants.{NoElement, NotBefore}
use Rattle.std.proofs.HeapSift.{ranks}
use Rattle.routing.specs.Entries.{blank}
use Rattle.routing.specs.Orders.{key_cmp, key_order, NoFarther}
use Rattle.routing.specs.declared.key.NodeKey.{NodeKey}
use Rattle.routing.specs.declared.key.Reach.{Reach}
use Rattle.routing.specs.declared.key.Reach.TheVariants.{At, NotReached}

pub no_farther : (x y : NodeKey) → before key_cmp y x ≡ false → NoFarther x.reach y.reach
no_farther x y h = by x.reach y.reach refl refl
  where
    by : (a b : Reach) → x.reach ≡ a → y.reach ≡ b → NoFarther a b
    by (At a) (At b) p q = search rules
    by (At a) NotReached p q = tt
    by NotReached (At b) p q = search rules
    by NotReached NotReached p q = tt

-- what comes before another is no farther
pub nearer : (x y : NodeKey) → before key_cmp x y ≡ true → NoFarther x.reach y.reach
nearer x y h = no_farther x y ((ranks key_order).one_way x y h)

-- what cannot take the place of an element of the heap does not come before it
pub not_lower : (xs : List NodeKey) (n i : ℕ) (x : NodeKey) (e : LowerError) → i < n → NotLower key_cmp xs n i x e → before key_cmp x (get_or xs i blank) ≡ false
not_lower xs n i x NoElement l h = absurd (omega arith)
not_lower xs n i x NotBefore l h = h.1 blank

-- entries of nodes not reached, in the order of the nodes, are a heap
pub rows : (a b : ℕ) → a ≤ b → before key_cmp (record { reach = NotReached; node = b }) (record { reach = NotReached; node = a }) ≡ false
rows a b h = search rules

pub reached_first : (a b x : ℕ) → before key_cmp (record { reach = At x; node = a }) (record { reach = NotReached; node = b }) ≡ true
reached_first a b x = search rules

pub fresh_heap : (zs : List NodeKey) → ((k : ℕ) → k < length zs → get_or zs k blank ≡ record { reach = NotReached; node = k }) → IsHeap key_cmp zs (length zs)
unfolding IsHeap
fresh_heap zs f = λ p k d a b l.
    subst (λ (x : NodeKey). before key_cmp x (get_or zs p d) ≡ false) (sym (get_or_default zs k d blank l ∙ f k l))
    (subst (λ (x : NodeKey). before key_cmp (record { reach = NotReached; node = k }) x ≡ false) (sym (get_or_default zs p d blank (omega arith) ∙ f p (omega arith)))
    (rows p k (omega arith)))
