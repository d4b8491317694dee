-- How a log grows order by order.
use Rattle.std.proofs.Common.{◌≡◌, ℕ, Bool, true, false, cond, List, [], ◌∷◌, ◌++◌, Some, None, Ok, Err, refl, subst, inl, append_assoc, append-nil}
use Rattle.std.specs.Result.{result_transpose}
use Rattle.network.specs.declared.network.Network.{Network}
use Rattle.orders.specs.declared.order.Reserve.{Reserve}
use Rattle.orders.specs.declared.order.Unreadable.TheVariants.{NoOrder}
use Rattle.orders.specs.Log.{Logged, OrdersLog, answer_line}
use Rattle.orders.specs.Orders.{after_next, is_reserve, next_of, reserve_of}

-- the log so far, before the words that are left: with what is logged of these it is the log of all
pub record SoFar (net : Network) (whole : Bool) (all : List ℕ) (serial : ℕ) (left held : List ℕ) : Type 0 where
  pub with : (later : List ℕ) → OrdersLog net whole serial left later → OrdersLog net whole 1 all (held ++ later)

module _ {net : Network} {whole : Bool} {all : List ℕ} {serial : ℕ} {held : List ℕ} where
  -- one more order is answered
  pub so_far-order : (left : List ℕ) (o : Reserve) {held' : List ℕ} {next : ℕ} → SoFar net whole all serial left held →
      result_transpose (next_of left whole) ≡ Some (Ok o) → Logged net o serial held held' next → SoFar net whole all next (after_next left) held'
  so_far-order [] o S e L = absurd (elim whole as (λ b. result_transpose (next_of [] b) ≡ Some (Ok o) → ⊥) [ true ↦ λ e. cc | false ↦ λ e. cc ] e)
  so_far-order (w ∷ []) o S e L = absurd cc
  so_far-order (w ∷ h ∷ rest) o {held'} {next} S e L = by (is_reserve w h) refl e
    where
      step : is_reserve w h ≡ true → Logged net (reserve_of w h) serial held held' next → SoFar net whole all next rest held'
      step q M = record {
        with = λ later more. rw (M.line, append_assoc held (answer_line serial M.answer) later)
            (S.with (answer_line serial M.answer ++ later) (inl (q, M.answer, later, M.quoted, refl, rw M.serials at more)));
      }

      by : (x : Bool) → is_reserve w h ≡ x → result_transpose (cond x (Ok (Some (reserve_of w h))) (Err NoOrder)) ≡ Some (Ok o) → SoFar net whole all next (cond x rest (w ∷ h ∷ rest)) held'
      by true q e = let same : o ≡ reserve_of w h = cc in step q (subst (λ (x : Reserve). Logged net x serial held held' next) same L)
      by false q e = absurd cc

  -- the orders end
  pub so_far-end : (left : List ℕ) → SoFar net whole all serial left held → result_transpose (next_of left whole) ≡ None → OrdersLog net whole 1 all held
  so_far-end [] S e = rw append-nil at (S.with [] (elim whole as (λ b. result_transpose (next_of [] b) ≡ None → OrdersLog net b serial [] []) [ true ↦ λ e. refl | false ↦ λ e. absurd cc ] e))
  so_far-end (w ∷ []) S e = absurd cc
  so_far-end (w ∷ h ∷ rest) S e = absurd (elim (is_reserve w h) as (λ x. result_transpose (cond x (Ok (Some (reserve_of w h))) (Err NoOrder)) ≡ None → ⊥) [ true ↦ λ e. cc | false ↦ λ e. cc ] e)
