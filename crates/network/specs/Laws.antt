-- What holds of every list of words, every network and every fault.
use Rattle.std.specs.Prelude.{◌≡◌, ℕ, List, ◌++◌, take, drop, None}
use Rattle.network.specs.declared.fault.Fault.{Fault}
use Rattle.network.specs.declared.link.Link.{Link}
use Rattle.network.specs.Faults.{number_of}
use Rattle.network.specs.Format.{network_words, extent_of}
use Rattle.network.specs.Limits.{Sound}
use Rattle.network.specs.Refusals.{Refuses}

-- the words are those of the network of n nodes with these links
pub record Accepts (ws : List ℕ) (n : ℕ) (links : List Link) : Type 0 where
  pub sound : Sound n links
  pub words : ws ≡ network_words n links

-- the fault is one of the words, and not want of memory
abbrev pub Numbered : Fault → Type 0
Numbered f = number_of f ≡ None → ⊥

-- No list is refused with two numbered faults.
abbrev pub OneFault : Type 0
OneFault = (ws : List ℕ) (f g : Fault) → Numbered f → Numbered g → Refuses ws f → Refuses ws g → f ≡ g

-- No list is both accepted and refused with a numbered fault.
abbrev pub OneAnswer : Type 0
OneAnswer = (ws : List ℕ) (n : ℕ) (links : List Link) (f : Fault) → Accepts ws n links → Refuses ws f → Numbered f → ⊥

-- No list is accepted as two networks.
abbrev pub OneNetwork : Type 0
OneNetwork =
    (ws : List ℕ) (m n : ℕ) (links others : List Link) → Accepts ws m links → Accepts ws n others → (m ≡ n) × (links ≡ others)

-- No network has two lists of words.
abbrev pub OneList : Type 0
OneList = (vs ws : List ℕ) (n : ℕ) (links : List Link) → Accepts vs n links → Accepts ws n links → vs ≡ ws

-- The words are accepted as this network, as no other, and are not refused.
pub record ReadsAs (ws : List ℕ) (n : ℕ) (links : List Link) : Type 0 where
  pub accepted : Accepts ws n links
  pub only : (m : ℕ) (others : List Link) → Accepts ws m others → (m ≡ n) × (others ≡ links)
  pub kept : (f : Fault) → Refuses ws f → Numbered f → ⊥

-- The words of a network read as it.
abbrev pub ReadsBack : Type 0
ReadsBack = (n : ℕ) (links : List Link) → Sound n links → ReadsAs (network_words n links) n links

-- The words are refused with this fault; where it is numbered, with no other, and they are no network's.
pub record RefusedFor (ws : List ℕ) (f : Fault) : Type 0 where
  pub refused : Refuses ws f
  pub only : Numbered f → (g : Fault) → Refuses ws g → Numbered g → g ≡ f
  pub kept : Numbered f → (n : ℕ) (links : List Link) → Accepts ws n links → ⊥

-- Words that begin with a network's fall, by their header, into these and what follows them.
abbrev pub Cuts : Type 0
Cuts =
    (ws : List ℕ) (n : ℕ) (links : List Link) (later : List ℕ) → Sound n links → ws ≡ network_words n links ++ later
    → (take (extent_of ws) ws ≡ network_words n links) × (drop (extent_of ws) ws ≡ later)
