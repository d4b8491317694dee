-- What a graph keeps, from the facts of its fields.
use Rattle.std.proofs.Common.{ℕ, ◌<◌, ◌≤◌, List, length, get_or}
use Rattle.graph.specs.Arcs.{Within, Sound, blank}
use Rattle.graph.specs.declared.arc.Arc.{Arc}

-- the limits of the arc e
pub sound_from_within : (n : ℕ) (arcs : List Arc) → Within n arcs → (e : ℕ) → e < length arcs → Sound n (get_or arcs e blank)
sound_from_within n arcs w e h = (w.tails e h, w.heads e h, w.dear e h, w.light e h)

-- the limits of the graph, from those of each arc
pub within_from_sound : (n : ℕ) (arcs : List Arc) → 1 ≤ n → n ≤ 32 → length arcs ≤ 128 → ((e : ℕ) → e < length arcs → Sound n (get_or arcs e blank)) → Within n arcs
within_from_sound n arcs some few_nodes few_arcs sound = record {
  nodes = (some, few_nodes);
  few = few_arcs;
  tails = λ e h. (sound e h).0;
  heads = λ e h. (sound e h).1;
  light = λ e h. (sound e h).3;
  dear = λ e h. (sound e h).2;
}
