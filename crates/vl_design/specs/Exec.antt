-- What a statement does (IEEE 1364-2005, clause 9).
use Rattle.std.specs.Prelude.{ℕ, zero, suc, ◌+◌, ◌-◌, ◌^◌, Bool, true, false, not, ◌&&◌, ◌||◌, ◌++◌, slice_set, if◌then◌else◌, ◌==◌, bit_and, bit_xor}
use Rattle.vl_design.specs.declared.design.Form.{Form}
use Rattle.vl_design.specs.Syntax.{Exp, Label, Un, LastAnswer, Exps, NoExps, MoreExps, Stm, Nop, Then, If, Case, For, Repeat, Set, Later, Sys, Items, NoItems, Labelled, Default}
use Rattle.vl_base.specs.Value.{resized}
use Rattle.vl_design.specs.Width.{Names, Scope, form, joined}
use Rattle.vl_design.specs.Value.{Sample, value, own_value, words_of}
use Rattle.vl_design.specs.State.{State, sample, counted, all_updated}
use Rattle.vl_design.specs.Targets.{assignment}
use Rattle.vl_design.specs.Tasks.{called}

-- ---- case statements (clause 9.5): the subject and all labels are sized to the longest, and signed where all are

abbrev pub labels_form : Names → Form → Exps → Form
labels_form names f NoExps = f
labels_form names f (MoreExps e es) = labels_form names (joined f (form names e)) es

abbrev pub items_form : Names → Form → Items → Form
items_form names f NoItems = f
items_form names f (Labelled es a others) = items_form names (labels_form names f es) others
items_form names f (Default a others) = items_form names f others

-- the bits that are compared with a label of w bits in a context: those of care, and above them, where the context is
-- signed, as its highest digit, which extends it (clauses 5.5.4 and 9.5.1); else all, as zeros extend it
abbrev pub compared : Form → ℕ → ℕ → ℕ
compared c w care = if c.signed then resized true w c.width care else care + (2 ^ c.width - 2 ^ w)

-- a label matches a value v (clause 9.5.1)
abbrev pub label_matches : Scope → Sample → Form → ℕ → Exp → Bool
label_matches scope s c v (Label l care w signed) =
    bit_and (bit_xor v (value scope s (Label l care w signed) c)) (compared c w care) == 0
label_matches scope s c v e = value scope s e c == v

abbrev pub some_match : Scope → Sample → Form → ℕ → Exps → Bool
some_match scope s c v NoExps = false
some_match scope s c v (MoreExps e es) = label_matches scope s c v e || some_match scope s c v es

-- ---- loops (clause 9.6)

-- at most this many turns of a loop are done (own: limit 8 refuses a loop with more)
abbrev pub most_turns : ℕ
most_turns = 4096

-- turn by turn, as long as the test holds
abbrev pub turns : {S : Type 0} → ℕ → (S → Bool) → (S → S) → S → S
turns zero test turn s = s
turns (suc n) test turn s = elim (test s) [ true ↦ turns n test turn (turn s) | false ↦ s ]

-- in some turn p holds
abbrev pub some_turn : {S : Type 0} → ℕ → (S → Bool) → (S → S) → (S → Bool) → S → Bool
some_turn zero test turn p s = false
some_turn (suc n) test turn p s = elim (test s) [ true ↦ p s || some_turn n test turn p (turn s) | false ↦ false ]

-- so many times
abbrev pub times : {S : Type 0} → ℕ → (S → S) → S → S
times zero turn s = s
times (suc n) turn s = times n turn (turn s)

-- the condition holds: its value isn't 0 (clause 9.4)
abbrev pub is_true : Scope → Exp → State → Bool
is_true scope e s = not (own_value scope (sample s) e == 0)

-- a loop makes one more turn: its test holds, and the run has not finished
abbrev pub goes_on : Scope → Exp → State → Bool
goes_on scope test s = not s.finished && is_true scope test s

-- behind a loop its variable is as before: it has no value outside (own)
abbrev pub restored : ℕ → State → State → State
restored k before s = record s { values = slice_set s.values k (words_of before.values k) }

-- ---- statements

-- the condition is the answer of a system function, or its negation
abbrev pub asks : Exp → Bool
asks LastAnswer = true
asks (Un op a) = asks a
asks e = false

-- the choice of a branch is a counted act where the statement holds a call
abbrev pub counted_if : Bool → State → State
counted_if held s = if held && not s.finished then counted s else s

abbrev mutual
  -- what a statement does; once a run has finished, nothing changes
  pub exec : Scope → Stm → State → State
  exec scope Nop s = s
  exec scope (Then a b) s = exec scope b (exec scope a s)
  exec scope (If t a b) s =
      let s' = counted_if (asks t || (holds scope s a || holds scope s b)) s in
      if is_true scope t s then exec scope a s' else exec scope b s'
  exec scope (Case e items) s =
      let s' = counted_if (items_hold scope s items) s in
      let c = items_form scope.names (form scope.names e) items in
      exec_items scope (value scope (sample s) e c) c items (exec_default scope items s') s'
  exec scope (For k start test step a) s =
      restored k s (turns most_turns (goes_on scope test) (λ t. exec scope step (exec scope a t)) (exec scope start s))
  exec scope (Repeat n a) s = times n (exec scope a) s
  exec scope (Set t e) s =
      if s.finished then s else record s { values = all_updated scope.names.rows s.values (assignment scope (sample s) t e) }
  exec scope (Later t e) s =
      if s.finished then s else record s { later = s.later ++ assignment scope (sample s) t e }
  exec scope (Sys task) s = if s.finished then s else called scope task s

  -- the first item with a label that matches v, or what the default did
  pub exec_items : Scope → ℕ → Form → Items → State → State → State
  exec_items scope v c NoItems otherwise s = otherwise
  exec_items scope v c (Labelled es a others) otherwise s =
      if some_match scope (sample s) c v es then exec scope a s else exec_items scope v c others otherwise s
  exec_items scope v c (Default a others) otherwise s = exec_items scope v c others otherwise s

  pub exec_default : Scope → Items → State → State
  exec_default scope NoItems s = s
  exec_default scope (Labelled es a others) s = exec_default scope others s
  exec_default scope (Default a others) s = exec scope a s

  -- the statement holds a call, with its loops unrolled: a loop of no turn holds nothing
  pub holds : Scope → State → Stm → Bool
  holds scope s Nop = false
  holds scope s (Then a b) = holds scope s a || holds scope s b
  holds scope s (If t a b) = asks t || (holds scope s a || holds scope s b)
  holds scope s (Case e items) = items_hold scope s items
  holds scope s (For k start test step a) =
      some_turn most_turns (goes_on scope test) (exec scope step) (λ t. holds scope t a) (exec scope start s)
  holds scope s (Repeat n a) = not (n == 0) && holds scope s a
  holds scope s (Set t e) = false
  holds scope s (Later t e) = false
  holds scope s (Sys task) = true

  pub items_hold : Scope → State → Items → Bool
  items_hold scope s NoItems = false
  items_hold scope s (Labelled es a others) = holds scope s a || items_hold scope s others
  items_hold scope s (Default a others) = holds scope s a || items_hold scope s others
