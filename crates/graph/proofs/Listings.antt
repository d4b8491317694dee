-- The lists of an index by ends of m arcs: how they grow, and that they make an index.
use Rattle.std.proofs.Common.{◌≡◌, ℕ, zero, suc, ◌+◌, ◌-◌, ◌<◌, ◌≤◌, Bool, cond, eqb, List, [], ◌∷◌, ◌++◌, length, get_or, take, drop, slice_range, sym, refl, ap, ◌∙◌, subst, inl, inr, add-one, zero-add, arith, All, Contains, filter, flat_map}
use Rattle.std.specs.List.{range_with_len}
use Rattle.std.proofs.lemmas.List.{length-append, get_or_append_left, get_or-append-add, get_or_default, nil_from_length, append-nil, append_assoc, map-id, take_at, drop_at}
use Rattle.std.proofs.lemmas.List.Concat.{flat_map-append}
use Rattle.std.proofs.lemmas.List.Elements.{filter-append, filter_passes, All-append, All-filter, All-from_get_or, All-nil, Contains-append_left, Contains-push}
use Rattle.std.proofs.lemmas.List.FromFn.{length-range_with_len, get_or-range_with_len, length-map-range_with_len, get_or-map-range_with_len, map-range_with_len_more}
use Rattle.std.proofs.lemmas.Bool.{eq-eqb, eqb-true, ne_eqb, cases_eq, cases_lt, cond-true, cond-false}
use Rattle.graph.specs.Index.{Indexed}
use Rattle.graph.specs.Listing.{of_node, by_node, starts, Lists, ListsArcs}

-- one number more
range_more : (n : ℕ) → range_with_len 0 (n + 1) ≡ range_with_len 0 n ++ n ∷ []
range_more n = sym (map-id (range_with_len 0 (n + 1))) ∙ map-range_with_len_more (λ x. x) 0 n n (zero-add n) ∙ ap (λ xs. xs ++ n ∷ []) (map-id (range_with_len 0 n))

-- every number is below n
range_below : (n : ℕ) → All (λ e. e < n) (range_with_len 0 n)
range_below n = All-from_get_or (λ e. e < n) (range_with_len 0 n) 0 (λ i h. let b : i < n = omega (arith, length-range_with_len 0 n) in omega (arith, get_or-range_with_len 0 n i 0 b))

module _ (ends : ℕ → ℕ) where
  -- one arc more
  pub of_node_more : (v m : ℕ) → of_node ends v (m + 1) ≡ of_node ends v m ++ cond (eqb (ends m) v) (m ∷ []) []
  of_node_more v m = ap (filter (λ e. eqb (ends e) v)) (range_more m) ∙ filter-append (λ e. eqb (ends e) v) (range_with_len 0 m) (m ∷ [])

  -- one node more
  pub by_node_more : (m n : ℕ) → by_node ends m (n + 1) ≡ by_node ends m n ++ of_node ends n m
  by_node_more m n =
      let f : ℕ → List ℕ = λ v. of_node ends v m in
      ap (flat_map f) (range_more n) ∙ flat_map-append f (range_with_len 0 n) (n ∷ []) ∙ ap (λ xs. by_node ends m n ++ xs) (append-nil (f n))

  pub starts_more : (m n : ℕ) → starts ends m (n + 1) ≡ starts ends m n ++ length (by_node ends m n) ∷ []
  starts_more m n = map-range_with_len_more (λ v. length (by_node ends m v)) 0 n n (zero-add n)

  -- one arc more, which is of v
  of_node_here : (v m : ℕ) → ends m ≡ v → of_node ends v (suc m) ≡ of_node ends v m ++ m ∷ []
  of_node_here v m h = ap (of_node ends v) (sym (add-one m)) ∙ of_node_more v m ∙ ap (λ xs. of_node ends v m ++ xs) (cond-true (eqb (ends m) v) (m ∷ []) [] (eq-eqb (ends m) v h))

  -- one arc more, which is not of v
  of_node_other : (v m : ℕ) → (ends m ≡ v → ⊥) → of_node ends v (suc m) ≡ of_node ends v m
  of_node_other v m h = ap (of_node ends v) (sym (add-one m)) ∙ of_node_more v m ∙ ap (λ xs. of_node ends v m ++ xs) (cond-false (eqb (ends m) v) (m ∷ []) [] (ne_eqb (ends m) v h)) ∙ append-nil (of_node ends v m)

  by_node_suc : (m n : ℕ) → by_node ends m (suc n) ≡ by_node ends m n ++ of_node ends n m
  by_node_suc m n = ap (by_node ends m) (sym (add-one n)) ∙ by_node_more m n

  length-by_node-suc : (m n : ℕ) → length (by_node ends m (suc n)) ≡ length (by_node ends m n) + length (of_node ends n m)
  length-by_node-suc m n = ap length (by_node_suc m n) ∙ length-append (by_node ends m n) (of_node ends n m)

  -- one arc more is one entry more at most, and none where it is of no node below n
  length-by_node-arc : (m n : ℕ) → (length (by_node ends (suc m) n) ≤ length (by_node ends m n) + 1) × (n ≤ ends m → length (by_node ends (suc m) n) ≡ length (by_node ends m n))
  length-by_node-arc m zero = (omega arith, λ _. refl)
  length-by_node-arc m (suc n) =
      let r = length-by_node-arc m n in
      let old = length-by_node-suc m n in
      let new = length-by_node-suc (suc m) n in
      elim (cases_eq (ends m) n) [
        | inl q ↦ (omega (arith, old, new, r.1 (omega arith), ap length (of_node_here n m q), length-append (of_node ends n m) (m ∷ [])), λ h. absurd (omega arith))
        | inr d ↦ (omega (arith, old, new, r.0, ap length (of_node_other n m d)), λ h. omega (arith, old, new, r.1 (omega arith), ap length (of_node_other n m d)))
      ]

  -- no more are listed than there are
  pub by_node_few : (m n : ℕ) → length (by_node ends m n) ≤ m
  by_node_few zero zero = omega arith
  by_node_few zero (suc n) = omega (arith, by_node_few zero n, length-by_node-suc 0 n)
  by_node_few (suc m) n = omega (arith, (length-by_node-arc m n).0, by_node_few m n)

  -- each arc of v stands in the list of v
  of_node_has : (v m e : ℕ) → e < m → ends e ≡ v → Contains (of_node ends v m) e
  of_node_has v zero e h z = absurd (omega arith)
  of_node_has v (suc m) e h z = elim (cases_eq e m) [
    | inl q ↦ subst (λ xs. Contains xs e) (sym (of_node_here v m (ap ends (sym q) ∙ z))) (subst (λ k. Contains (of_node ends v m ++ k ∷ []) e) q (Contains-push (of_node ends v m) e))
    | inr d ↦ subst (λ xs. Contains xs e) (sym (ap (of_node ends v) (sym (add-one m)) ∙ of_node_more v m)) (Contains-append_left (of_node ends v m) (cond (eqb (ends m) v) (m ∷ []) []) e (of_node_has v m e (omega arith) z))
  ]

  -- the list of v is of the arcs of v
  pub of_node_lists : (v m : ℕ) → ListsArcs ends m v (of_node ends v m)
  of_node_lists v m =
      let test : ℕ → Bool = λ e. eqb (ends e) v in
      record {
        complete = λ e h z. let r = of_node_has v m e h z in (r.0, r.1, get_or_default (of_node ends v m) r.0 0 e r.1 ∙ r.2);
        sound = λ p h. (All-filter test (λ e. e < m) (range_with_len 0 m) (range_below m) p 0 h, eqb-true (ends (get_or (of_node ends v m) p 0)) v (filter_passes test (range_with_len 0 m) p 0 h));
      }

  -- every entry is an arc
  by_node_below : (m n : ℕ) → All (λ e. e < m) (by_node ends m n)
  by_node_below m zero = All-nil (λ e. e < m)
  by_node_below m (suc n) =
      subst (λ xs. All (λ e. e < m) xs) (sym (by_node_suc m n))
      (All-append (λ e. e < m) (by_node ends m n) (of_node ends n m) (by_node_below m n) (All-filter (λ e. eqb (ends e) n) (λ e. e < m) (range_with_len 0 m) (range_below m)))

  -- the entries of v stand behind those of the nodes below v
  by_node_split : (m n v : ℕ) → v < n → (rest : List ℕ) × (by_node ends m n ≡ by_node ends m v ++ (of_node ends v m ++ rest))
  by_node_split m zero v h = absurd (omega arith)
  by_node_split m (suc n) v h = elim (cases_eq v n) [
    | inl z ↦ ([], by_node_suc m n ∙ ap (λ w. by_node ends m w ++ of_node ends w m) (sym z) ∙ ap (λ xs. by_node ends m v ++ xs) (sym (append-nil (of_node ends v m))))
    | inr d ↦ (let r = by_node_split m n v (omega arith) in (r.0 ++ of_node ends n m, by_node_suc m n ∙ ap (λ xs. xs ++ of_node ends n m) r.1 ∙ simp append_assoc))
  ]

  -- where the entries of v begin, and where they stop
  starts_at : (m n v : ℕ) → v < n + 1 → get_or (starts ends m (n + 1)) v 0 ≡ length (by_node ends m v)
  starts_at m n v h = get_or-map-range_with_len (λ w. length (by_node ends m w)) 0 (n + 1) v v 0 h (zero-add v)

  stops_at : (m n v : ℕ) → v < n → get_or (starts ends m (n + 1)) (v + 1) 0 ≡ length (by_node ends m v) + length (of_node ends v m)
  stops_at m n v h = starts_at m n (v + 1) (omega arith) ∙ ap length (by_node_more m v) ∙ length-append (by_node ends m v) (of_node ends v m)

  length-starts : (m n : ℕ) → length (starts ends m (n + 1)) ≡ n + 1
  length-starts m n = length-map-range_with_len (λ w. length (by_node ends m w)) 0 (n + 1)

  -- the entries of v are in the list
  by_node_past : (m n v : ℕ) → v < n → length (by_node ends m v) + length (of_node ends v m) ≤ length (by_node ends m n)
  by_node_past m n v h =
      let r = by_node_split m n v h in
      omega (arith, ap length r.1, length-append (by_node ends m v) (of_node ends v m ++ r.0), length-append (of_node ends v m) r.0)

  -- the entry q of v
  by_node_at : (m n v q : ℕ) → v < n → q < length (of_node ends v m) → get_or (by_node ends m n) (length (by_node ends m v) + q) 0 ≡ get_or (of_node ends v m) q 0
  by_node_at m n v q h l =
      let r = by_node_split m n v h in
      ap (λ xs. get_or xs (length (by_node ends m v) + q) 0) r.1 ∙ get_or-append-add (by_node ends m v) (of_node ends v m ++ r.0) q 0 ∙ get_or_append_left (of_node ends v m) r.0 0 q l

  -- where every end is a node, there is no list of another node
  of_node_none : (m n : ℕ) → ((e : ℕ) → e < m → ends e < n) → (v : ℕ) → n ≤ v → length (of_node ends v m) ≡ 0
  of_node_none m n within v h = elim (cases_lt 0 (length (of_node ends v m))) [
    | inl some ↦ (let r = (of_node_lists v m).sound 0 some in absurd (omega (arith, r.1, within (get_or (of_node ends v m) 0 0) r.0)))
    | inr none ↦ omega arith
  ]

  -- the run of v is the list of v
  run_of_node : (m n v : ℕ) → v < n → slice_range (by_node ends m n) (get_or (starts ends m (n + 1)) v 0) (get_or (starts ends m (n + 1)) (v + 1) 0) ≡ of_node ends v m
  run_of_node m n v h =
      let r = by_node_split m n v h in
      let order = by_node ends m n in
      let a = length (by_node ends m v) in
      let k = length (of_node ends v m) in
      ap (λ i. slice_range order i (get_or (starts ends m (n + 1)) (v + 1) 0)) (starts_at m n v (omega arith))
      ∙ ap (λ j. slice_range order a j) (stops_at m n v h)
      ∙ ap (λ xs. take (a + k - a) (drop a xs)) r.1
      ∙ ap (take (a + k - a)) (drop_at (by_node ends m v) (of_node ends v m ++ r.0) a refl)
      ∙ take_at (of_node ends v m) r.0 (a + k - a) (omega arith)

  -- what an index gives for v is of the arcs of v
  pub run_from_lists : (m n : ℕ) (first order : List ℕ) → Lists ends m n first order → ((e : ℕ) → e < m → ends e < n) → (v : ℕ) (run : List ℕ)
      → (v + 1 < length first → run ≡ slice_range order (get_or first v 0) (get_or first (v + 1) 0)) → (length first ≤ v + 1 → run ≡ [])
      → (run ≡ of_node ends v m) × ListsArcs ends m v run
  run_from_lists m n first order l within v run here past =
      let size = ap length l.begins ∙ length-starts m n in
      let same : run ≡ of_node ends v m = elim (cases_lt v n) [
        | inl h ↦ here (omega arith) ∙ cc (run_of_node m n v h, l.begins, l.numbers)
        | inr h ↦ past (omega arith) ∙ sym (nil_from_length (of_node ends v m) (of_node_none m n within v h))
      ] in
      (same, subst (λ xs. ListsArcs ends m v xs) (sym same) (of_node_lists v m))

  -- the lists of the nodes below n and their number make an index
  pub lists_done : (m n k count : ℕ) (first order last : List ℕ) → k ≡ n → (first ≡ starts ends m k) × (order ≡ by_node ends m k) → count ≡ length order → last ≡ first ++ count ∷ [] → Lists ends m n last order
  lists_done m n k count first order last all made len pushed = record {
    begins = pushed ∙ cc (starts_more m k, all, made.0, made.1, len);
    numbers = made.1 ∙ ap (by_node ends m) all;
  }

  -- an index rises
  pub lists_rise : (m n : ℕ) (first order : List ℕ) → Lists ends m n first order → (v : ℕ) → v + 1 < length first → get_or first v 0 ≤ get_or first (v + 1) 0
  lists_rise m n first order l v h =
      let P : List ℕ → Type 0 = λ xs. get_or xs v 0 ≤ get_or xs (v + 1) 0 in
      let b : v < n = omega (arith, ap length l.begins, length-starts m n) in
      subst P (sym l.begins) (omega (arith, starts_at m n v (omega arith), stops_at m n v b))

  -- and it stays within the list
  pub lists_within : (m n : ℕ) (first order : List ℕ) → Lists ends m n first order → (v : ℕ) → v < length first → get_or first v 0 ≤ length order
  lists_within m n first order l v h =
      let b : v < n + 1 = omega (arith, ap length l.begins, length-starts m n) in
      let at : get_or first v 0 ≡ length (by_node ends m v) = ap (λ xs. get_or xs v 0) l.begins ∙ starts_at m n v b in
      elim (cases_eq v n) [
        | inl z ↦ omega (arith, at, ap length l.numbers, ap (λ w. length (by_node ends m w)) z)
        | inr d ↦ omega (arith, at, ap length l.numbers, by_node_past m n v (omega arith))
      ]

  -- where every end is a node, the lists sort the arcs
  pub indexed_from_lists : (m n : ℕ) (first order : List ℕ) → Lists ends m n first order → ((e : ℕ) → e < m → ends e < n) → Indexed m ends first order n
  indexed_from_lists m n first order l within = rw (l.begins, l.numbers) (record {
    firsts = length-starts m n;
    upward = λ v h. omega (arith, starts_at m n v (omega arith), stops_at m n v h);
    bounded = λ v h. omega (arith, stops_at m n v h, by_node_past m n v h);
    numbers = λ p h. by_node_below m n p 0 h;
    listed = λ e h.
        let v = ends e in
        let b = within e h in
        let r = (of_node_lists v m).complete e h refl in
        (length (by_node ends m v) + r.0, omega (arith, starts_at m n v (omega arith)), omega (arith, stops_at m n v b, r.1), by_node_at m n v r.0 b r.1 ∙ r.2);
    owned = λ v p h lo hi.
        let q = p - length (by_node ends m v) in
        let start = starts_at m n v (omega arith) in
        let l : q < length (of_node ends v m) = omega (arith, start, stops_at m n v h) in
        let z : p ≡ length (by_node ends m v) + q = omega (arith, start) in
        ap ends (ap (λ k. get_or (by_node ends m n) k 0) z ∙ by_node_at m n v q h l) ∙ ((of_node_lists v m).sound q l).1;
  })
