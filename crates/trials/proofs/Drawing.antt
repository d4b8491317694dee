-- Links that are added to others.
use Rattle.std.proofs.Common.{◌≡◌, ℕ, ◌+◌, ◌-◌, ◌<◌, ◌≤◌, List, [], ◌++◌, length, get_or, sym, ap, ◌∙◌, subst, arith, length-append}
use Rattle.std.specs.List.{AllByRecursion}
use Rattle.std.proofs.ByRecursion.{All-append, All-get_or, All-weaker}
use Rattle.std.proofs.lemmas.List.{get_or_append_left, get_or-append_right}
use Rattle.network.specs.declared.link.Link.{Link}
use Rattle.network.specs.Limits.{Sound, SoundLink, blank}
use Rattle.trials.specs.Drafts.{Drawn, Grown, Spread}
use Rattle.trials.specs.Traps.{Leads, Trap, Trapped, cost_at}

-- sound links with others behind them are a network's
pub sound_grown : (n low high k : ℕ) (before after : List Link) → 2 ≤ n → n ≤ 32 → AllByRecursion (SoundLink n) before → Grown n low high k before after →
    1 ≤ length before + k → length before + k ≤ 128 → Sound n after
sound_grown n low high k before after two most b g some few =
    let long : length after ≡ length before + k = omega (arith, ap length g.whole, length-append before g.new, g.count) in
    let all : AllByRecursion (SoundLink n) after =
    subst (λ (l : List Link). AllByRecursion (SoundLink n) l) (sym g.whole)
    (All-append (SoundLink n) before g.new b (All-weaker (Drawn n low high) (SoundLink n) (λ x d. d.sound) g.new g.each)) in
    record {
      nodes_above = two;
      nodes_below = most;
      links_above = omega arith;
      links_below = omega arith;
      each = λ e l. All-get_or (SoundLink n) after e blank l all;
    }

pub at_least : (n low high k : ℕ) (before after : List Link) → Grown n low high k before after → length before ≡ 5 → 5 ≤ length after
at_least n low high k before after g five = omega (arith, ap length g.whole, length-append before g.new)

-- a trap stays one with dearer links behind it
pub trapped : (n high k : ℕ) (before after : List Link) → length before ≡ 5 → Trap before → Grown n 41 high k before after → Trapped after
trapped n high k before after five t g = subst (λ (l : List Link). Trapped l) (sym g.whole) (record { trap = front; dear = behind })
  where
    at : (e : ℕ) → e < 5 → get_or (before ++ g.new) e blank ≡ get_or before e blank
    at e l = get_or_append_left before g.new blank e (omega arith)

    behind : (e : ℕ) → 5 ≤ e → e < length (before ++ g.new) → 40 < (get_or (before ++ g.new) e blank).cost
    behind e l m =
        let here = get_or-append_right before g.new 5 e blank five l in
        let inside : e - 5 < length g.new = omega (arith, length-append before g.new) in
        let d = All-get_or (Drawn n 41 high) g.new (e - 5) blank inside g.each in
        omega (arith, ap (λ x. x.cost) here, d.above)

    leads : (e u v : ℕ) → e < 5 → Leads before e u v → Leads (before ++ g.new) e u v
    leads e u v l h = rw (at e l) h

    costs : (e : ℕ) → e < 5 → cost_at (before ++ g.new) e ≡ cost_at before e
    costs e l = ap (λ x. x.cost) (at e l)

    front : Trap (before ++ g.new)
    front = record {
      first = leads 0 0 1 (omega arith) t.first;
      second = leads 1 1 2 (omega arith) t.second;
      third = leads 2 2 3 (omega arith) t.third;
      past_one = leads 3 0 2 (omega arith) t.past_one;
      past_two = leads 4 1 3 (omega arith) t.past_two;
      dearer_one = omega (arith, t.dearer_one, costs 0 (omega arith), costs 1 (omega arith), costs 3 (omega arith));
      dearer_two = omega (arith, t.dearer_two, costs 1 (omega arith), costs 2 (omega arith), costs 4 (omega arith));
      cheap = omega (arith, t.cheap, costs 0 (omega arith), costs 2 (omega arith), costs 3 (omega arith), costs 4 (omega arith));
    }

-- what is drawn from nothing on
pub spread : (n low high k : ℕ) (before after : List Link) → before ≡ [] → 2 ≤ n → n ≤ 32 → 1 ≤ k → k ≤ 128 → Grown n low high k before after → Spread n low high k after
spread n low high k before after none two most some few g =
    let all : AllByRecursion (Drawn n low high) after =
    subst (λ (l : List Link). AllByRecursion (Drawn n low high) l) (sym (g.whole ∙ ap (λ l. l ++ g.new) none)) g.each in
    let empty : length before ≡ 0 = ap length none in
    record {
      sound = sound_grown n low high k before after two most (subst (λ (l : List Link). AllByRecursion (SoundLink n) l) (sym none) tt) g (omega arith) (omega arith);
      costs = λ e l. let d = All-get_or (Drawn n low high) after e blank l all in (d.above, d.below);
      many = omega (arith, ap length g.whole, length-append before g.new, g.count);
    }
