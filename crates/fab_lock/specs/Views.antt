-- What a seat knows after each call.
use Rattle.std.specs.Prelude.{ℕ, ◌+◌, ◌-◌, ◌/◌, true, false, List, [], ◌∷◌, ◌++◌, length, drop, slice_set, Some, None}
use Rattle.fab_lock.specs.declared.view.View.{View}
use Rattle.fab_lock.specs.Histories.{longer}

module _ {L N : Type 0} where
  -- the first seat of a lock has the numbers below 2 ^ 32, and has seen nothing
  abbrev pub first_view : L → ℕ → View L N
  first_view label count =
      record {
        label = Some label;
        count = count;
        low = 0;
        others = 4294967295;
        seen = [];
        own = [];
        told = [];
        joined = [];
        known = [];
        holds = false;
        taken = [];
        words = [];
      }

  -- a seat that was joined into another knows nothing
  abbrev pub spent_view : View L N
  spent_view =
      record {
        label = None;
        count = 0;
        low = 0;
        others = 0;
        seen = [];
        own = [];
        told = [];
        joined = [];
        known = [];
        holds = false;
        taken = [];
        words = [];
      }

  -- it took the value with this history, and found these progress words
  abbrev pub after_grab : View L N → List N → List ℕ → View L N
  after_grab v history words = record v { holds = true; taken = history; words = words }

  -- it gave the value back with this history: it has seen that, and the notes behind the one taken are its own
  abbrev pub after_give : View L N → List N → View L N
  after_give v history =
      record v { seen = history; own = v.own ++ drop (length v.taken) history; holds = false; taken = []; words = [] }

  -- it set a progress word
  abbrev pub after_post : View L N → ℕ → ℕ → View L N
  after_post v word tick = record v { words = slice_set v.words word tick }

  -- it found this tick in a progress word
  abbrev pub after_glance : View L N → ℕ → ℕ → View L N
  after_glance v word tick = record v { known = (word, tick) ∷ v.known }

  -- how many numbers of its range a seat gives away: half of them, rounded down
  abbrev pub half_range : View L N → ℕ
  half_range v = (v.others + 1) / 2

  -- the seat that gave half of its numbers away keeps the lower ones
  abbrev pub lower_half : View L N → View L N
  lower_half v = record v { others = v.others - half_range v }

  -- the seat that got them has seen and found the same, and gave no note
  abbrev pub upper_half : View L N → View L N
  upper_half v =
      record v {
        low = v.low + v.others - half_range v + 1;
        others = half_range v - 1;
        own = [];
        told = [];
        joined = [];
        holds = false;
        taken = [];
        words = [];
      }

  -- it took in what another seat knew: the longer of both histories, the notes that the other gave, and both seats' ticks
  abbrev pub after_join : View L N → View L N → View L N
  after_join v other =
      record v {
        seen = longer v.seen other.seen;
        told = [];
        joined = v.joined ++ (other.low, other.own) ∷ other.joined;
        known = v.known ++ other.known;
      }

  -- the same between the two steps of a join, where it isn't settled which history is the longer
  abbrev pub told_view : View L N → View L N → View L N
  told_view v other =
      record v {
        told = other.seen;
        joined = v.joined ++ (other.low, other.own) ∷ other.joined;
        known = v.known ++ other.known;
      }

  -- it was settled
  abbrev pub settled_view : View L N → View L N
  settled_view v = record v { seen = longer v.seen v.told; told = [] }
