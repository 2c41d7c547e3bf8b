-- The first line that has a cause.
use Rattle.std.specs.Prelude.{zero, suc}
use Rattle.std.proofs.Common.{◌≡◌, ℕ, ◌+◌, ◌<◌, ◌≤◌, true, false, if◌then◌else◌, List, [], ◌∷◌, ◌++◌, length, map, take, drop, get_or, Some, None, Result, Ok, Err, IfOk, OnOk, Bor, refl, sym, ap, ◌∙◌, arith}
use Rattle.std.proofs.lemmas.List.{at_drop_more, take_more, take_all, length-take-le, length-map, drop_all}
use Rattle.std.proofs.lemmas.List.Sums.{fold-append}
use Rattle.std.specs.Result.{IsErrOf}
use Rattle.host_text.specs.Words.{lines}
use Rattle.host_text.specs.Statements.{says}
use Rattle.host_text.specs.declared.script.Script.{Script}
use Rattle.host_text.specs.declared.script.ScriptError.{ScriptError}
use Rattle.host_text.specs.declared.script.ScriptError.TheVariants.{At}
use Rattle.host_text.specs.Scripts.{nothing}
use Rattle.host_text.specs.Reading.{with_said, script_of, cause_behind, line_cause, fault_or, first_fault, is_bare, reading_of, reading}

-- one more line of a script
pub script_of-more : (ls : List (List ℕ)) (i : ℕ) (d : List ℕ) → i < length ls → script_of (take (i + 1) ls) ≡ with_said (script_of (take i ls)) (says (get_or ls i d))
script_of-more ls i d l = ap script_of (take_more ls i d l) ∙ fold-append (λ s x. with_said s (says x)) nothing (take i ls) (get_or ls i d ∷ [])

step : (ls : List (List ℕ)) (i : ℕ) (d : List ℕ) → i < length ls
    → first_fault (take i ls) (drop i ls) ≡ fault_or (i + 1) (line_cause (take i ls) (get_or ls i d)) (first_fault (take (i + 1) ls) (drop (i + 1) ls))
step ls i d l =
    at_drop_more (first_fault (take i ls)) ls i d l
    ∙ ap (λ n. fault_or (n + 1) (line_cause (take i ls) (get_or ls i d)) (first_fault (take i ls ++ get_or ls i d ∷ []) (drop (i + 1) ls))) (length-take-le i ls (omega (arith, l)))
    ∙ ap (λ above. fault_or (i + 1) (line_cause (take i ls) (get_or ls i d)) (first_fault above (drop (i + 1) ls))) (sym (take_more ls i d l))

-- a line without a cause
pub fault-on : (ls : List (List ℕ)) (i : ℕ) (d : List ℕ) → i < length ls → line_cause (take i ls) (get_or ls i d) ≡ None
    → first_fault (take i ls) (drop i ls) ≡ first_fault (take (i + 1) ls) (drop (i + 1) ls)
fault-on ls i d l none = step ls i d l ∙ ap (λ c. fault_or (i + 1) c (first_fault (take (i + 1) ls) (drop (i + 1) ls))) none

-- a line with one
pub fault-here : (ls : List (List ℕ)) (i : ℕ) (d : List ℕ) (cause : ℕ) → i < length ls → line_cause (take i ls) (get_or ls i d) ≡ Some cause
    → first_fault (take i ls) (drop i ls) ≡ Some (i + 1, cause)
fault-here ls i d cause l some = step ls i d l ∙ ap (λ c. fault_or (i + 1) c (first_fault (take (i + 1) ls) (drop (i + 1) ls))) some

-- no line is left
pub fault-none : (ls : List (List ℕ)) (i : ℕ) → length ls ≤ i → first_fault (take i ls) (drop i ls) ≡ None
fault-none ls i l = ap (first_fault (take i ls)) (drop_all i ls l)

-- ---- the lines that references point to

abbrev shown : List (Bor (List ℕ)) → List (List ℕ)
shown refs = map (λ r. r.now) refs

pub line-of : (refs : List (Bor (List ℕ))) (i : ℕ) (d : Bor (List ℕ)) → i < length refs → get_or (shown refs) i [] ≡ (get_or refs i d).now
line-of [] i d l = absurd (omega (arith, l))
line-of (r ∷ refs) zero d l = refl
line-of (r ∷ refs) (suc i) d l = line-of refs i d (omega (arith, l))

shown-below : (refs : List (Bor (List ℕ))) (i : ℕ) → i < length refs → i < length (shown refs)
shown-below refs i l = let e = length-map refs (λ (r : Bor (List ℕ)). r.now) in omega (arith, l, e)

cause-here : (refs : List (Bor (List ℕ))) (i : ℕ) (x : List ℕ) (s : Script) → get_or (shown refs) i [] ≡ x → s ≡ script_of (take i (shown refs))
    → line_cause (take i (shown refs)) (get_or (shown refs) i []) ≡ cause_behind s (says x)
cause-here refs i x s at so = ap (λ y. line_cause (take i (shown refs)) y) at ∙ ap (λ t. cause_behind t (says x)) (sym so)

-- a line without a cause
pub turn-script : (refs : List (Bor (List ℕ))) (i : ℕ) (x : List ℕ) (s t : Script) → i < length refs → get_or (shown refs) i [] ≡ x → s ≡ script_of (take i (shown refs))
    → t ≡ with_said s (says x) → t ≡ script_of (take (i + 1) (shown refs))
turn-script refs i x s t l at so goes =
    goes ∙ ap (λ u. with_said u (says x)) so ∙ ap (λ y. with_said (script_of (take i (shown refs))) (says y)) (sym at)
    ∙ sym (script_of-more (shown refs) i [] (shown-below refs i l))

pub turn-fault : (refs : List (Bor (List ℕ))) (i : ℕ) (x : List ℕ) (s : Script) → i < length refs → get_or (shown refs) i [] ≡ x → s ≡ script_of (take i (shown refs))
    → cause_behind s (says x) ≡ None → first_fault [] (shown refs) ≡ first_fault (take i (shown refs)) (drop i (shown refs))
    → first_fault [] (shown refs) ≡ first_fault (take (i + 1) (shown refs)) (drop (i + 1) (shown refs))
turn-fault refs i x s l at so none so_far = so_far ∙ fault-on (shown refs) i [] (shown-below refs i l) (cause-here refs i x s at so ∙ none)

abbrev line_in : {T : Type 0} → Result T ScriptError → ℕ
line_in (Err (At n c)) = n
line_in r = 0

abbrev cause_in : {T : Type 0} → Result T ScriptError → ℕ
cause_in (Err (At n c)) = c
cause_in r = 0

-- a line with one
pub turn-stop : {T : Type 0} (refs : List (Bor (List ℕ))) (i : ℕ) (x : List ℕ) (s : Script) (cause given line why : ℕ) → i < length refs → get_or (shown refs) i [] ≡ x
    → s ≡ script_of (take i (shown refs)) → cause_behind s (says x) ≡ Some cause → given ≡ cause → first_fault [] (shown refs) ≡ first_fault (take i (shown refs)) (drop i (shown refs))
    → IsErrOf {T = T} (Err (At (i + 1) given)) (At line why) → first_fault [] (shown refs) ≡ Some (line, why)
turn-stop {T = T} refs i x s cause given line why l at so some is so_far e =
    let place : i + 1 ≡ line = ap (line_in {T = T}) e in
    let same : given ≡ why = ap (cause_in {T = T}) e in
    so_far ∙ fault-here (shown refs) i [] cause (shown-below refs i l) (cause-here refs i x s at so ∙ some)
    ∙ ap (λ n. Some (n, cause)) place ∙ ap (λ c. Some (line, c)) (sym is ∙ same)

-- no line is left
pub turn-end : (refs : List (Bor (List ℕ))) (i : ℕ) → length refs ≤ i → first_fault [] (shown refs) ≡ first_fault (take i (shown refs)) (drop i (shown refs)) → first_fault [] (shown refs) ≡ None
turn-end refs i l so_far = let e = length-map refs (λ (r : Bor (List ℕ)). r.now) in so_far ∙ fault-none (shown refs) i (omega (arith, l, e))

pub script-end : (refs : List (Bor (List ℕ))) (i : ℕ) → length refs ≤ i → script_of (take i (shown refs)) ≡ script_of (shown refs)
script-end refs i l = let e = length-map refs (λ (r : Bor (List ℕ)). r.now) in ap script_of (take_all i (shown refs) (omega (arith, l, e)))

-- ---- the whole

pub whole : (bytes : List ℕ) (ls : List (List ℕ)) (s : Script) → ls ≡ lines bytes → first_fault [] ls ≡ None → is_bare s ≡ false → s ≡ script_of ls → reading bytes ≡ Ok s
whole bytes ls s is none not so =
    ap (λ ks. reading_of ks (first_fault [] ks)) (sym is) ∙ ap (reading_of ls) none
    ∙ ap (λ b. if b then Err (length ls + 1, 9) else Ok (script_of ls)) (ap is_bare (sym so) ∙ not) ∙ ap Ok (sym so)

pub bare : (bytes : List ℕ) (ls : List (List ℕ)) (s : Script) (line cause : ℕ) → ls ≡ lines bytes → first_fault [] ls ≡ None → is_bare s ≡ true → s ≡ script_of ls
    → line ≡ length ls + 1 → cause ≡ 9 → reading bytes ≡ Err (line, cause)
bare bytes ls s line cause is none lacks so place nine =
    ap (λ ks. reading_of ks (first_fault [] ks)) (sym is) ∙ ap (reading_of ls) none
    ∙ ap (λ b. if b then Err (length ls + 1, 9) else Ok (script_of ls)) (ap is_bare (sym so) ∙ lacks)
    ∙ ap (λ n. Err (n, 9)) (sym place) ∙ ap (λ c. Err (line, c)) (sym nine)

pub faulty : (bytes : List ℕ) (ls : List (List ℕ)) (f : ℕ × ℕ) → ls ≡ lines bytes → first_fault [] ls ≡ Some f → reading bytes ≡ Err f
faulty bytes ls f is some = ap (λ ks. reading_of ks (first_fault [] ks)) (sym is) ∙ ap (reading_of ls) some

-- ---- what is answered at the end

pub read-ok : (bytes : List ℕ) (ls : List (List ℕ)) (r : Result Script ScriptError) (s : Script) → ls ≡ lines bytes → first_fault [] ls ≡ None → s ≡ script_of ls
    → OnOk r (is_bare s ≡ false) → IfOk r (λ t. t ≡ s) → IfOk r (λ t. reading bytes ≡ Ok t)
read-ok bytes ls (Ok t) s is none so not e = whole bytes ls s is none not so ∙ ap Ok (sym e)
read-ok bytes ls (Err f) s is none so not e = tt
