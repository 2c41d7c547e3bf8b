-- The first fault is the first.
use Rattle.std.specs.Prelude.{zero, suc}
use Rattle.std.proofs.Common.{◌≡◌, ◌⊎◌, inl, inr, ℕ, ◌+◌, ◌<◌, Bool, true, false, if◌then◌else◌, List, [], ◌∷◌, ◌++◌, length, take, get_or, Option, Some, None, Result, Ok, Err, refl, sym, ap, ◌∙◌, append_assoc, append-nil, arith}
use Rattle.std.proofs.lemmas.Bool.{true≢false, cases_order}
use Rattle.std.proofs.lemmas.List.{length-append}
use Rattle.host_text.specs.Words.{lines}
use Rattle.host_text.specs.declared.script.Script.{Script}
use Rattle.host_text.specs.Reading.{script_of, line_cause, fault_or, first_fault, is_bare, reading_of, reading}
use Rattle.host_text.specs.Laws.{cause_at, AreRight, IsScript, IsFault, At, Bare}
use Rattle.host_text.proofs.Apart.{some_none, some_same, err_ok, ok_same, err_same}

-- ---- no fault

pub both-none : (n : ℕ) (c : Option ℕ) (later : Option (ℕ × ℕ)) → fault_or n c later ≡ None → (c ≡ None) × (later ≡ None)
both-none n None later e = (refl, e)
both-none n (Some c) later e = absurd (some_none (n, c) e)

none-all : (above ls : List (List ℕ)) → first_fault above ls ≡ None → (k : ℕ) → k < length ls → line_cause (above ++ take k ls) (get_or ls k []) ≡ None
none-all above [] e k l = absurd (omega (arith, l))
none-all above (x ∷ ls) e zero l = ap (λ a. line_cause a x) (append-nil above) ∙ (both-none _ (line_cause above x) (first_fault (above ++ x ∷ []) ls) e).0
none-all above (x ∷ ls) e (suc k) l =
    let later = (both-none _ (line_cause above x) (first_fault (above ++ x ∷ []) ls) e).1 in
    ap (λ a. line_cause a (get_or ls k [])) (sym (append_assoc above (x ∷ []) (take k ls))) ∙ none-all (above ++ x ∷ []) ls later k (omega (arith, l))

-- ---- a fault

pub record IsFirst (above ls : List (List ℕ)) (n c : ℕ) : Type 0 where
  pub k : ℕ
  pub place : n ≡ length above + k + 1
  pub within : k < length ls
  pub cause : line_cause (above ++ take k ls) (get_or ls k []) ≡ Some c
  pub before : (j : ℕ) → j < k → line_cause (above ++ take j ls) (get_or ls j []) ≡ None

first-of : (above ls : List (List ℕ)) (n c : ℕ) → first_fault above ls ≡ Some (n, c) → IsFirst above ls n c
first-of above [] n c e = absurd (some_none (n, c) (sym e))
first-of above (x ∷ ls) n c e = by (line_cause above x) refl (λ f. first-of (above ++ x ∷ []) ls n c f) e
  where
    earlier : (k : ℕ) → line_cause above x ≡ None → ((j : ℕ) → j < k → line_cause ((above ++ x ∷ []) ++ take j ls) (get_or ls j []) ≡ None)
        → (j : ℕ) → j < suc k → line_cause (above ++ take j (x ∷ ls)) (get_or (x ∷ ls) j []) ≡ None
    earlier k here before zero l = ap (λ a. line_cause a x) (append-nil above) ∙ here
    earlier k here before (suc j) l = ap (λ a. line_cause a (get_or ls j [])) (sym (append_assoc above (x ∷ []) (take j ls))) ∙ before j (omega (arith, l))

    by : (o : Option ℕ) → line_cause above x ≡ o → (first_fault (above ++ x ∷ []) ls ≡ Some (n, c) → IsFirst (above ++ x ∷ []) ls n c)
        → fault_or (length above + 1) o (first_fault (above ++ x ∷ []) ls) ≡ Some (n, c) → IsFirst above (x ∷ ls) n c
    by (Some d) here later f =
        let same = some_same (length above + 1, d) (n, c) f in
        let place : length above + 1 ≡ n = ap (λ (p : ℕ × ℕ). p.0) same in
        let cause : d ≡ c = ap (λ (p : ℕ × ℕ). p.1) same in
        record {
          k = 0;
          place = omega (arith, place);
          within = omega arith;
          cause = ap (λ a. line_cause a x) (append-nil above) ∙ here ∙ ap Some cause;
          before = λ j l. absurd (omega (arith, l));
        }
    by None here later f =
        let rest = later f in
        record {
          k = suc rest.k;
          place = omega (arith, rest.place, length-append above (x ∷ []));
          within = omega (arith, rest.within);
          cause = ap (λ a. line_cause a (get_or ls rest.k [])) (sym (append_assoc above (x ∷ []) (take rest.k ls))) ∙ rest.cause;
          before = earlier rest.k here rest.before;
        }

-- ---- the reading

abbrev answer : List (List ℕ) → Bool → Result Script (ℕ × ℕ)
answer ls b = if b then Err (length ls + 1, 9) else Ok (script_of ls)

by_bare : (ls : List (List ℕ)) (b : Bool) (s : Script) → is_bare (script_of ls) ≡ b → answer ls b ≡ Ok s → (b ≡ false) × (s ≡ script_of ls)
by_bare ls true s e f = absurd (err_ok (Err (length ls + 1, 9)) (length ls + 1, 9) s refl f)
by_bare ls false s e f = (refl, sym (ok_same (Ok (script_of ls)) (script_of ls) s refl f))

read : (bytes : List ℕ) (s : Script) (o : Option (ℕ × ℕ)) → first_fault [] (lines bytes) ≡ o → reading_of (lines bytes) o ≡ Ok s → IsScript bytes s
read bytes s (Some f) e h = absurd (err_ok (reading_of (lines bytes) (Some f)) f s refl h)
read bytes s None e h =
    let both = by_bare (lines bytes) (is_bare (script_of (lines bytes))) s refl h in
    record { right = λ j l. none-all [] (lines bytes) e j l; whole = both.0; is = both.1 }

pub reading-of : (bytes : List ℕ) (s : Script) → reading bytes ≡ Ok s → IsScript bytes s
reading-of bytes s e = read bytes s (first_fault [] (lines bytes)) refl e

bare-fault : (bytes : List ℕ) (line cause : ℕ) (b : Bool) → is_bare (script_of (lines bytes)) ≡ b → AreRight (lines bytes) (length (lines bytes))
    → answer (lines bytes) b ≡ Err (line, cause) → IsFault bytes line cause
bare-fault bytes line cause false e right h = absurd (err_ok (answer (lines bytes) false) (line, cause) (script_of (lines bytes)) h refl)
bare-fault bytes line cause true e right h =
    let same = err_same (answer (lines bytes) true) (length (lines bytes) + 1, 9) (line, cause) refl h in
    let place : length (lines bytes) + 1 ≡ line = ap (λ (p : ℕ × ℕ). p.0) same in
    let nine : 9 ≡ cause = ap (λ (p : ℕ × ℕ). p.1) same in
    Bare (sym place) (sym nine) right e

fault : (bytes : List ℕ) (line cause : ℕ) (o : Option (ℕ × ℕ)) → first_fault [] (lines bytes) ≡ o → reading_of (lines bytes) o ≡ Err (line, cause) → IsFault bytes line cause
fault bytes line cause (Some (n, c)) e h =
    let same = err_same (reading_of (lines bytes) (Some (n, c))) (n, c) (line, cause) refl h in
    let place : n ≡ line = ap (λ (p : ℕ × ℕ). p.0) same in
    let why : c ≡ cause = ap (λ (p : ℕ × ℕ). p.1) same in
    let first = first-of [] (lines bytes) n c e in
    (let at : line ≡ first.k + 1 = omega (arith, first.place, place) in At first.k at first.within (first.cause ∙ ap Some why) first.before)
fault bytes line cause None e h = bare-fault bytes line cause (is_bare (script_of (lines bytes))) refl (λ j l. none-all [] (lines bytes) e j l) h

pub fault-of : (bytes : List ℕ) (line cause : ℕ) → reading bytes ≡ Err (line, cause) → IsFault bytes line cause
fault-of bytes line cause e = fault bytes line cause (first_fault [] (lines bytes)) refl e

pub not-both : (bytes : List ℕ) (s : Script) (line cause : ℕ) → IsScript bytes s → IsFault bytes line cause → ⊥
not-both bytes s line cause a (At k place within here before) = some_none cause (sym here ∙ a.right k within)
not-both bytes s line cause a (Bare place nine right bare) = true≢false (sym bare ∙ a.whole)

pub one-script : (bytes : List ℕ) (s t : Script) → IsScript bytes s → IsScript bytes t → s ≡ t
one-script bytes s t a b = a.is ∙ sym b.is

-- lines with a cause, above which no line has one, are one line
same-place : (ls : List (List ℕ)) (k m c d : ℕ) → cause_at ls k ≡ Some c → AreRight ls k → cause_at ls m ≡ Some d → AreRight ls m → k ≡ m
same-place ls k m c d here before there above = by (cases_order k m)
  where
    by : (k ≡ m) ⊎ ((k < m) ⊎ (m < k)) → k ≡ m
    by (inl e) = e
    by (inr (inl l)) = absurd (some_none c (sym here ∙ above k l))
    by (inr (inr l)) = absurd (some_none d (sym there ∙ before m l))

pub one-fault : (bytes : List ℕ) (line cause at why : ℕ) → IsFault bytes line cause → IsFault bytes at why → (line ≡ at) × (cause ≡ why)
one-fault bytes line cause at why (At k place within here before) (At m spot inside there above) =
    let same = same-place (lines bytes) k m cause why here before there above in
    let where_ : line ≡ at = omega (arith, place, spot, same) in
    (where_, some_same cause why (sym here ∙ ap (cause_at (lines bytes)) same ∙ there))
one-fault bytes line cause at why (At k place within here before) (Bare spot nine right bare) = absurd (some_none cause (sym here ∙ right k within))
one-fault bytes line cause at why (Bare place nine right bare) (At m spot inside there above) = absurd (some_none why (sym there ∙ right m inside))
one-fault bytes line cause at why (Bare place nine right bare) (Bare spot also correct empty) = (place ∙ sym spot, nine ∙ sym also)

pub is-read : (bytes : List ℕ) (s : Script) → IsScript bytes s → reading bytes ≡ Ok s
is-read bytes s a = by (reading bytes) refl
  where
    by : (r : Result Script (ℕ × ℕ)) → reading bytes ≡ r → reading bytes ≡ Ok s
    by (Ok t) e = e ∙ ap Ok (one-script bytes t s (reading-of bytes t e) a)
    by (Err f) e = absurd (not-both bytes s f.0 f.1 a (fault-of bytes f.0 f.1 e))

pub is-fault : (bytes : List ℕ) (line cause : ℕ) → IsFault bytes line cause → reading bytes ≡ Err (line, cause)
is-fault bytes line cause a = by (reading bytes) refl
  where
    by : (r : Result Script (ℕ × ℕ)) → reading bytes ≡ r → reading bytes ≡ Err (line, cause)
    by (Ok t) e = absurd (not-both bytes t line cause (reading-of bytes t e) a)
    by (Err f) e =
        let same = one-fault bytes f.0 f.1 line cause (fault-of bytes f.0 f.1 e) a in
        e ∙ ap (λ (n : ℕ). Err (n, f.1)) same.0 ∙ ap (λ (c : ℕ). Err (line, c)) same.1
