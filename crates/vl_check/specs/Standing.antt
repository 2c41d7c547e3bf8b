-- The faults in the bodies of processes and functions (own).
use Rattle.std.specs.Prelude.{List, [], ◌∷◌, ◌++◌, flat_map}
use Rattle.vl_design.specs.declared.stop.Stop.{Stop}
use Rattle.vl_design.specs.Placed.{Stm, Func, Process, Design}
use Rattle.vl_design.specs.Stops.{construct_if}
use Rattle.vl_check.specs.Bodies.{Setting, of_process, of_function}
use Rattle.vl_check.specs.Rules.{sites_faults}
use Rattle.vl_check.specs.Headers.{loop_faults}
use Rattle.vl_check.specs.Triggers.{trigger_faults}
use Rattle.vl_check.specs.Writers.{is_rival}

abbrev pub body_faults : Setting → Stm → List Stop
body_faults b a = sites_faults b a ++ loop_faults b [] a

-- the faults of a process behind others
abbrev pub process_faults : Design → List Process → Process → List Stop
process_faults d before a =
    body_faults (of_process d a) a.body
    ++ (trigger_faults d.signals a
    ++ construct_if (is_rival d.signals before a) a.place 14)

abbrev pub processes_faults : Design → List Process → List Process → List Stop
processes_faults d before [] = []
processes_faults d before (a ∷ as') = process_faults d before a ++ processes_faults d (before ++ (a ∷ [])) as'

abbrev pub functions_faults : Design → List Func → List Stop
functions_faults d fs = flat_map (λ f. body_faults (of_function d f) f.body) fs

-- all of them in a design: constructs 15 to 18 and 20 to 23, but for recursion, and of variables 14
abbrev pub standing_faults : Design → List Stop
standing_faults d = processes_faults d [] d.processes ++ functions_faults d d.funcs
