-- Sets of arcs as flows, stated dually, and potentials that certify them.
use Rattle.std.specs.Prelude.{◌≡◌, ℕ, zero, suc, ◌+◌, ◌<◌, ◌≤◌, Bool, true, false, cond, List}
use Rattle.paths.specs.Pairs.{Digraph, sum}

-- the sum of w over the numbers below n
abbrev pub up_to : (ℕ → ℕ) → ℕ → ℕ
up_to w zero = 0
up_to w (suc n) = up_to w n + w n

-- the sum of w over the arcs of F, a set of arcs
abbrev pub over : Digraph → (ℕ → Bool) → (ℕ → ℕ) → ℕ
over net F w = up_to (λ e. cond (F e) (w e) 0) net.size

-- F leads from the nodes `from` to the nodes `to`, each as often as it is listed: every potential agrees.
-- (The potential that is 1 at one node and 0 elsewhere gives that node's balance of arcs out and in.)
abbrev pub Carries : Digraph → (ℕ → Bool) → List ℕ → List ℕ → Type 0
Carries net F from to = (π : ℕ → ℕ) →
    over net F (λ e. π (net.head e)) + sum π from ≡ over net F (λ e. π (net.tail e)) + sum π to

-- no residual arc of F is shorter than the potentials' difference
pub record Certified (net : Digraph) (usable F : ℕ → Bool) (π : ℕ → ℕ) : Type 0 where
  pub within : (e : ℕ) → e < net.size → F e ≡ true → usable e ≡ true
  pub used : (e : ℕ) → e < net.size → F e ≡ true → net.weight e + π (net.tail e) ≤ π (net.head e)
  pub free : (e : ℕ) → e < net.size → usable e ≡ true → F e ≡ false → π (net.head e) ≤ net.weight e + π (net.tail e)

-- s is in S and t is not; no free usable arc leads out of S, and no arc of F into it
pub record Closed (net : Digraph) (usable F S : ℕ → Bool) (s t : ℕ) : Type 0 where
  pub start : S s ≡ true
  pub end : S t ≡ false
  pub within : (e : ℕ) → e < net.size → F e ≡ true → usable e ≡ true
  pub out : (e : ℕ) → e < net.size → usable e ≡ true → F e ≡ false → S (net.tail e) ≡ true → S (net.head e) ≡ true
  pub back : (e : ℕ) → e < net.size → F e ≡ true → S (net.head e) ≡ true → S (net.tail e) ≡ true

-- the arc e is as long as the potentials of its ends differ
abbrev pub Tight : Digraph → (ℕ → ℕ) → ℕ → Type 0
Tight net π e = net.weight e + π (net.tail e) ≡ π (net.head e)
