-- Flags that are set and cleared.
use Rattle.std.proofs.Common.{◌≡◌, ℕ, ◌+◌, ◌-◌, ◌<◌, min, Bool, true, false, cond, not, List, ◌++◌, length, take, drop, get_or, set, replicate, sym, ap, ◌∙◌, subst, ⊎_elim, arith, get_or-set_other, get_or-set_same}
use lib.ListN.{get_or-replicate, length-replicate}
use Rattle.std.proofs.lemmas.List.{get_or_append_left, get_or-append_right, get_or-drop, get_or-take, get_or_past, length-take-le, set_past}
use Rattle.std.proofs.lemmas.List.Sums.{sum_by-set}
use Rattle.std.proofs.lemmas.Bool.{both_ways, cases_lt}
use Rattle.enumeration.specs.Walks.{unseen}

-- one node less is unseen
pub enters : (seen : List Bool) (v : ℕ) → v < length seen → get_or seen v false ≡ false → unseen (set seen v true) + 1 ≡ unseen seen
enters seen v l h =
    omega (arith, sum_by-set (λ b. cond (not b) 1 0) seen v true false l, ap {B = ℕ} (λ b. cond (not b) 1 0) h)

-- what is unset after x was set was unset before, and is not x
pub unset_before : (xs : List Bool) (x y : ℕ) → x < length xs → get_or (set xs x true) y false ≡ false → (x ≡ y → ⊥) × (get_or xs y false ≡ false)
unset_before xs x y l h =
    let ne : x ≡ y → ⊥ = λ e. both_ways (get_or (set xs x true) x false) (subst (λ (k : ℕ). get_or (set xs x true) k false ≡ false) (sym e) h) (get_or-set_same xs x true false l) in
    (ne, sym (get_or-set_other xs x y true false (λ e. ne (sym e))) ∙ h)

pub unset_after : (xs : List Bool) (x y : ℕ) → (x ≡ y → ⊥) → get_or xs y false ≡ false → get_or (set xs x true) y false ≡ false
unset_after xs x y ne h = get_or-set_other xs x y true false (λ e. ne (sym e)) ∙ h

-- a cleared flag is unset, the others stay
pub cleared : (xs : List Bool) (x : ℕ) → get_or (set xs x false) x false ≡ false
cleared xs x =
    ⊎_elim (λ l. get_or-set_same xs x false false l) (λ l. ap (λ ys. get_or ys x false) (set_past xs x false l) ∙ get_or_past xs x false l) (cases_lt x (length xs))

pub kept_clear : (xs : List Bool) (x y : ℕ) → (x ≡ y → ⊥) → get_or xs y false ≡ true → get_or (set xs x false) y false ≡ true
kept_clear xs x y ne h = get_or-set_other xs x y false false (λ e. ne (sym e)) ∙ h

pub clear_before : (xs : List Bool) (x y : ℕ) → get_or (set xs x false) y false ≡ true → (x ≡ y → ⊥) × (get_or xs y false ≡ true)
clear_before xs x y h =
    let ne : x ≡ y → ⊥ = λ e. both_ways (get_or (set xs x false) x false) (cleared xs x) (subst (λ (k : ℕ). get_or (set xs x false) k false ≡ true) (sym e) h) in
    (ne, sym (get_or-set_other xs x y false false (λ e. ne (sym e))) ∙ h)

-- nothing is set at first
pub unset_first : (n y : ℕ) → get_or (replicate n false) y false ≡ false
unset_first n y =
    ⊎_elim (λ l. get_or-replicate n y false false l) (λ l. get_or_past (replicate n false) y false (omega (arith, length-replicate n false))) (cases_lt y n)

-- the flags are copied to the front of 128, as far as they fit
pub copied : (flags front : List Bool) (n : ℕ) → n ≡ min (length flags) 128 → front ≡ take n flags → (e : ℕ) → e < 128 →
    get_or (front ++ drop n (replicate 128 false)) e false ≡ get_or flags e false
copied flags front n m is e l =
    let rest = drop n (replicate 128 false) in
    let long : length front ≡ n = ap length is ∙ length-take-le n flags (omega arith) in
    ⊎_elim
    (λ k. get_or_append_left front rest false e (omega arith) ∙ ap (λ xs. get_or xs e false) is ∙ get_or-take n flags e false k)
    (λ k. get_or-append_right front rest n e false long k ∙ get_or-drop n (replicate 128 false) (e - n) false ∙ unset_first 128 (n + (e - n))
    ∙ sym (get_or_past flags e false (omega arith)))
    (cases_lt e n)
