-- What processes wait for: refused construct 16, and of 15 the edges (own; IEEE 1364-2005, clause 9.7).
use Rattle.std.specs.Prelude.{ℕ, Bool, not, ◌&&◌, ◌||◌, ◌==◌, false, nat_lt, List, [], ◌∷◌, ◌++◌, length}
use Rattle.std.specs.List.{list_any}
use Rattle.vl_design.specs.declared.design.Event.{Event}
use Rattle.vl_design.specs.declared.design.Signal.{Signal}
use Rattle.vl_design.specs.declared.design.SigKind.{SigKind}
use Rattle.vl_design.specs.declared.stop.Stop.{Stop}
use Rattle.vl_design.specs.Placed.{Process}
use Rattle.vl_design.specs.Stops.{construct_if}
use Rattle.vl_sites.specs.Sites.{sites}
use Rattle.vl_check.specs.Bodies.{kind_is}
use Rattle.vl_check.specs.Rules.{is_clock, is_loop, reads, sets}

abbrev pub is_edge : Event → Bool
is_edge e = not (e.edge == 0)

-- construct 15: an edge on anything but a clock
abbrev pub is_misplaced : List Signal → Event → Bool
is_misplaced signals e = is_edge e && not (kind_is is_clock signals e.signal)

-- construct 16: an edge and anything else
abbrev pub is_mixed : List Event → Bool
is_mixed es = list_any is_edge es && nat_lt 1 (length es)

-- a list of plain names
abbrev pub is_list : List Event → Bool
is_list [] = false
is_list (e ∷ es) = not (list_any is_edge (e ∷ es))

-- anything but a loop variable
abbrev pub has_value : SigKind → Bool
has_value kind = not (is_loop kind)

-- construct 16: the list lacks a signal that the process reads and doesn't write
abbrev pub is_missing : List Signal → Process → ℕ → Bool
is_missing signals a k =
    kind_is has_value signals k
    && (not (list_any (λ e. e.signal == k) a.events)
    && not (list_any (λ s. sets (λ j. j == k) s.what) (sites a.body)))

abbrev pub lacks_some : List Signal → Process → Bool
lacks_some signals a = is_list a.events && list_any (λ s. reads (is_missing signals a) s.what) (sites a.body)

abbrev pub trigger_faults : List Signal → Process → List Stop
trigger_faults signals a =
    construct_if (list_any (is_misplaced signals) a.events) a.place 15
    ++ construct_if (is_mixed a.events || lacks_some signals a) a.place 16
