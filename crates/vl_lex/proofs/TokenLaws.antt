-- The laws of tokens.
use Rattle.std.proofs.Common.{◌≡◌, ℕ, ◌+◌, ◌<◌, ◌==◌, true, false, cond, List, [], ◌∷◌, ◌++◌, length, refl, sym, ap, subst, ◌∙◌, arith, ◌⊎◌, inl, inr}
use Rattle.std.specs.List.{AllByRecursion}
use Rattle.std.proofs.lemmas.List.{length-append, append_assoc}
use Rattle.vl_tree.specs.vl_base.specs.declared.place.Place.{Place}
use Rattle.vl_tree.specs.declared.token.Token.{Token}
use Rattle.vl_tree.specs.declared.token.TokenKind.{TokenKind}
use Rattle.vl_tree.specs.Tokens.{IsToken, start, next_place, place_after, Passes, here, gap, token, Tokens}
use Rattle.vl_lex.specs.Laws.{IsSlice, AreSlices, IsBefore, Rise}
use Rattle.vl_lex.specs.Reading.{next, Next, found}
use Rattle.vl_lex.proofs.NextLaws.{Says}
use Rattle.vl_lex.proofs.Stands.{says, token_read}
use Rattle.vl_lex.proofs.PassLaws.{found_rest, same_passed}

-- ---- places

pub place_after-append : (p : Place) (a b : List ℕ) → place_after p (a ++ b) ≡ place_after (place_after p a) b
unfolding place_after
place_after-append p [] b = refl
place_after-append p (x ∷ a) b = place_after-append (next_place p x) a b

-- not after
abbrev pub IsNotAfter : Place → Place → Type 0
IsNotAfter p q = (p ≡ q) ⊎ IsBefore p q

before_then : (p q r : Place) → IsBefore p q → IsBefore q r → IsBefore p r
before_then p q r (inl h) (inl k) = inl (omega arith)
before_then p q r (inl h) (inr k) = inl (omega arith)
before_then p q r (inr h) (inl k) = inl (omega arith)
before_then p q r (inr h) (inr k) = inr (omega arith, omega arith)

pub up_to_then : (p q r : Place) → IsBefore p q → IsNotAfter q r → IsBefore p r
up_to_then p q r h (inl e) = subst (λ (x : Place). IsBefore p x) e h
up_to_then p q r h (inr k) = before_then p q r h k

next_after : (p : Place) (b : ℕ) → IsBefore p (next_place p b)
next_after p b = elim (b == 10) as (λ v. IsBefore p (cond v (record { line = p.line + 1; column = 1 }) (record { line = p.line; column = p.column + 1 }))) [ true ↦ inl (omega arith) | false ↦ inr (refl, omega arith) ]

pub place_up : (p : Place) (bs : List ℕ) → IsNotAfter p (place_after p bs)
unfolding place_after
place_up p [] = inl refl
place_up p (b ∷ bs) = inr (up_to_then p (next_place p b) (place_after (next_place p b) bs) (next_after p b) (place_up (next_place p b) bs))

-- bytes that are passed lead on
pub place_rises : (p : Place) (bs : List ℕ) → 0 < length bs → IsBefore p (place_after p bs)
unfolding place_after
place_rises p [] h = absurd (omega arith)
place_rises p (b ∷ bs) h = up_to_then p (next_place p b) (place_after (next_place p b) bs) (next_after p b) (place_up (next_place p b) bs)

says_found : (text : List ℕ) (kind : TokenKind) (after : List ℕ) → 0 < length text → next text ≡ found kind after → length after < length text
says_found text kind after h e = (subst (λ (n : Next). Says text n) e (says text h)).0.shorter

nil_no_token : (kind : TokenKind) (after : List ℕ) → next [] ≡ found kind after → ⊥
unfolding next
nil_no_token kind after e = cc

pub token_long : (text passed after : List ℕ) (kind : TokenKind) → text ≡ passed ++ after → IsToken text kind after → 0 < length passed
token_long [] passed after kind e k = absurd (nil_no_token kind after (token_read k))
token_long (b ∷ bs) passed after kind e k = omega (arith, says_found (b ∷ bs) kind after (omega arith) (token_read k), ap length e, length-append passed after)

-- the tokens of a run are at or behind its place, and rise
abbrev FirstFrom : Place → List Token → Type 0
FirstFrom p [] = Unit {0}
FirstFrom p (t ∷ ts) = IsNotAfter p t.place

first_up : (p q : Place) (ts : List Token) → IsNotAfter p q → FirstFrom q ts → FirstFrom p ts
first_up p q [] h k = tt
first_up p q (t ∷ ts) (inl e) k = subst (λ (x : Place). IsNotAfter x t.place) (sym e) k
first_up p q (t ∷ ts) (inr h) k = inr (up_to_then p q t.place h k)

rise_from : (one : Token) (ts : List Token) (q : Place) → IsBefore one.place q → FirstFrom q ts → Rise ts → Rise (one ∷ ts)
rise_from one [] q h f r = tt
rise_from one (t ∷ ts) q h f r = (up_to_then one.place q t.place h f, r)

pub passes_from : {p q : Place} {text rest : List ℕ} {ts : List Token} → Passes p text ts q rest → FirstFrom p ts
passes_from here = tt
passes_from {p} {ts = ts} (gap passed e g h) = first_up p (place_after p passed) ts (place_up p passed) (passes_from h)
passes_from (token passed e t h) = inl refl

pub passes_rise : {p q : Place} {text rest : List ℕ} {ts : List Token} → Passes p text ts q rest → Rise ts
passes_rise here = tt
passes_rise (gap passed e g h) = passes_rise h
passes_rise {p} {text = text} (token {after = after} {kind = kind} {tokens = ts} passed e t h) =
    rise_from (record { place = p; kind = kind }) ts (place_after p passed) (place_rises p passed (token_long text passed after kind e t)) (passes_from h) (passes_rise h)

-- ---- spellings

-- behind some bytes of a text, the slices of what is left are those of the text
pub passes_slices : {p q : Place} {text rest : List ℕ} {ts : List Token} (whole front : List ℕ) → whole ≡ front ++ text → p ≡ place_after start front → Passes p text ts q rest → AllByRecursion (IsSlice whole) ts
passes_slices whole front e f here = tt
passes_slices {p} {text = text} whole front e f (gap {after = after} passed k g h) =
    passes_slices whole (front ++ passed) (e ∙ ap (λ (s : List ℕ). front ++ s) k ∙ sym (append_assoc front passed after)) (ap (λ (x : Place). place_after x passed) f ∙ sym (place_after-append start front passed)) h
passes_slices {p} {text = text} whole front e f (token {after = after} {kind = kind} passed k t h) =
    let stands : IsToken (passed ++ after) kind after = subst (λ (s : List ℕ). IsToken s kind after) k t in
    let one : IsSlice whole (record { place = p; kind = kind }) = record {
      before = front;
      spelling = passed;
      rest = after;
      spelled = e ∙ ap (λ (s : List ℕ). front ++ s) k;
      at_place = f;
      is_token = stands;
      longest = λ other beyond other_kind e2 t2. sym (same_passed (passed ++ after) passed other after beyond refl e2 (found_rest kind other_kind after beyond (sym (token_read stands) ∙ token_read t2)));
    } in
    (one, passes_slices whole (front ++ passed) (e ∙ ap (λ (s : List ℕ). front ++ s) k ∙ sym (append_assoc front passed after)) (ap (λ (x : Place). place_after x passed) f ∙ sym (place_after-append start front passed)) h)

pub tokens_slices : (text : List ℕ) (ts : List Token) → Tokens text ts → AreSlices text ts
unfolding place_after
tokens_slices text ts h = passes_slices text [] refl refl h.1

pub tokens_rise : (text : List ℕ) (ts : List Token) → Tokens text ts → Rise ts
tokens_rise text ts h = passes_rise h.1
