-- The lines of the log, and the whole log of an input.
use Rattle.std.specs.Prelude.{◌≡◌, ℕ, ◌+◌, ◌%◌, Bool, true, cond, ◌⊎◌, List, [], ◌∷◌, ◌++◌, length, take, drop, Some, Ok, Err, codes, decimal, Result, ◌==◌, ◌≢◌}
use Rattle.line.specs.Held.{spaced}
use Rattle.network.specs.declared.fault.Fault.{Fault}
use Rattle.network.specs.declared.network.Network.{Network}
use Rattle.network.specs.Faults.{number_of as fault_number}
use Rattle.network.specs.Format.{extent_of, network_words}
use Rattle.network.specs.Networks.{link_list, node_count}
use Rattle.network.specs.Refusals.{Refuses}
use Rattle.routing.specs.declared.path.Pair.{Pair}
use Rattle.routing.specs.Found.{links_of}
use Rattle.orders.specs.declared.order.Reserve.{Reserve}
use Rattle.orders.specs.declared.refusal.Refusal.{Refusal}
use Rattle.orders.specs.Orders.{Quoted, is_reserve, number_of, reserve_of, unfit}
use Rattle.orders.specs.Words.{IsWords}

abbrev pub newline : List ℕ
newline = 10 ∷ []

-- NO and a number
abbrev pub no_line : ℕ → List ℕ
no_line n = codes "NO " ++ (decimal n ++ newline)

-- PAIR, the serial, the cost, W, the working links, P, the protecting links
abbrev pub pair_line : ℕ → Pair → List ℕ
pair_line serial p =
    codes "PAIR " ++ (decimal serial ++ (codes " " ++ (decimal p.cost
    ++ (codes " W" ++ (spaced (links_of p.working) ++ (codes " P" ++ (spaced (links_of p.protecting) ++ newline)))))))

-- the line of an answer, and the serial that comes next: an accepted order takes one
abbrev pub answer_line : ℕ → Result Pair Refusal → List ℕ
answer_line serial (Ok p) = pair_line serial p
answer_line serial (Err f) = no_line (number_of f)

abbrev pub next_serial : ℕ → Result Pair Refusal → ℕ
next_serial serial (Ok p) = serial + 1
next_serial serial (Err f) = serial

-- one order was answered by a line behind what the log held, and `next` is the serial that comes next
pub record Logged (net : Network) (o : Reserve) (serial : ℕ) (before after : List ℕ) (next : ℕ) : Type 0 where
  pub answer : Result Pair Refusal
  pub quoted : Quoted net o (unfit (node_count net) o serial) answer
  pub line : after ≡ before ++ answer_line serial answer
  pub serials : next ≡ next_serial serial answer

-- the log of the order words on a network, from a serial on: a line for each order with its answer, until the words end;
-- NO 9 where no order can be read, or where bytes are left over, ends it
abbrev pub OrdersLog : Network → Bool → ℕ → List ℕ → List ℕ → Type 0
OrdersLog net whole serial [] out = out ≡ cond whole [] (no_line 9)
OrdersLog net whole serial (w ∷ []) out = out ≡ no_line 9
OrdersLog net whole serial (w ∷ h ∷ rest) out =
    ((is_reserve w h ≡ true)
    × (r : Result Pair Refusal) × (later : List ℕ) × Quoted net (reserve_of w h) (unfit (node_count net) (reserve_of w h) serial) r
    × (out ≡ answer_line serial r ++ later) × OrdersLog net whole (next_serial serial r) rest later)
    ⊎ ((is_reserve w h ≢ true) × (out ≡ no_line 9))

-- the log of all words: the first are the network, as their header says, the rest are orders; a refused network is one line
abbrev pub WordsLog : List ℕ → Bool → List ℕ → Type 0
WordsLog words whole out =
    ((f : Fault) × (n : ℕ) × Refuses (take (extent_of words) words) f × (fault_number f ≡ Some n) × (out ≡ no_line n))
    ⊎ ((net : Network) × (take (extent_of words) words ≡ network_words (node_count net) (link_list net))
    × OrdersLog net whole 1 (drop (extent_of words) words) out)

-- the log of an input: that of its words, and whether bytes are left over behind them
pub record RunLog (input out : List ℕ) : Type 0 where
  pub words : List ℕ
  pub are : IsWords input words
  pub log : WordsLog words (length input % 4 == 0) out
