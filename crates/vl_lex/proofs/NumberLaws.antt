-- Numbers: the reading and the relations are one.
use Rattle.std.proofs.Common.{◌≡◌, ℕ, ◌^◌, ◌<◌, Bool, true, false, ◌==◌, ◌||◌, nat_le, List, [], ◌∷◌, ◌++◌, length, Option, Some, None, Result, Ok, Err, refl, sym, ap, subst, ◌∙◌, arith, inl, inr}
use Rattle.std.proofs.lemmas.Bool.{or_cases, or_left, and_parts, and_from, eq-eqb, eqb-true, cond_both, cond-true, cond-false, cases_Bool, both_ways, leb-true, leb-false, lt-leb, le-leb}
use Rattle.std.proofs.lemmas.Bool.Decides.{nat_tests}
use Rattle.std.proofs.lemmas.List.{append_assoc, length-append}
use Rattle.vl_tree.specs.vl_base.specs.declared.number.Number.{Number}
use Rattle.vl_tree.specs.declared.token.TokenKind.TheVariants as t
use Rattle.vl_tree.specs.Bytes.{is_white, is_figure, is_decimal, past, Are, Ends}
use Rattle.vl_tree.specs.Numbers.{is_hex, is_x, is_z, is_digit, is_first_digit, is_further_digit, value_of, number_of, plain_number, radix_of, is_sign, IsSign, unmarked, marked, IsPlain, Digits, Based, Plain}
use Rattle.vl_tree.specs.Gaps.{opens_block, opens_attribute}
use Rattle.vl_tree.specs.Tokens.{plain, based}
use Rattle.vl_tree.specs.Faults.{IsCause, NumberFault, too_wide, no_number, no_digits}
use Rattle.vl_lex.specs.Reading.{run, next, found, stuck, Parts, sign_at, digits_from, behind_base, base_at, digits_at, number_found, based_by, plain_at, behind_size, number_at}
use Rattle.vl_lex.proofs.RunLaws.{run_and_past, run_passes, past_ends, run_is, past_is, chosen, some_is, none_is_not}
use Rattle.vl_lex.proofs.NextLaws.{Passed, Says, first_figure, first_apostrophe}

-- ---- behind the apostrophe

-- what is read is spelled so
from_digits : (tail sign gap u v : List ℕ) (signed : Bool) (letter radix : ℕ) (d : Parts) → IsSign sign signed → tail ≡ sign ++ (letter ∷ u) → radix_of letter ≡ Some radix → u ≡ gap ++ v → Are is_white gap
    → digits_from signed radix v ≡ Some d → Digits tail d.signed d.radix d.digits d.rest
from_digits tail sign gap u [] signed letter radix d s e r g w h = none_is_not d h
from_digits tail sign gap u (first ∷ v) signed letter radix d s e r g w h =
    elim (chosen (is_first_digit radix first) _ None (Some d) h) [
      | inl k ↦
          let made : Digits tail signed radix (first ∷ run (is_further_digit radix first) v) (past (is_further_digit radix first) v) = record {
            sign = sign;
            letter = letter;
            gap = gap;
            first = first;
            more = run (is_further_digit radix first) v;
            spelled = e ∙ ap (λ (s : List ℕ). sign ++ (letter ∷ s)) (g ∙ ap (λ (s : List ℕ). gap ++ (first ∷ s)) (run_and_past (is_further_digit radix first) v));
            digits_are = refl;
            is_sign = s;
            is_base = r;
            is_gap = w;
            is_first = k.0;
            are_digits = run_passes (is_further_digit radix first) v;
            ends = past_ends (is_further_digit radix first) v;
          } in
          subst (λ (d : Parts). Digits tail d.signed d.radix d.digits d.rest) (some_is _ _ k.1) made
      | inr k ↦ none_is_not d k.1
    ]

from_base : (tail sign u : List ℕ) (signed : Bool) (letter : ℕ) (o : Option ℕ) (d : Parts) → IsSign sign signed → tail ≡ sign ++ (letter ∷ u) → radix_of letter ≡ o
    → behind_base signed o (past is_white u) ≡ Some d → Digits tail d.signed d.radix d.digits d.rest
from_base tail sign u signed letter None d s e r h = none_is_not d h
from_base tail sign u signed letter (Some radix) d s e r h = from_digits tail sign (run is_white u) u (past is_white u) signed letter radix d s e r (run_and_past is_white u) (run_passes is_white u) h

from_sign : (tail sign u : List ℕ) (signed : Bool) (d : Parts) → IsSign sign signed → tail ≡ sign ++ u → base_at signed u ≡ Some d → Digits tail d.signed d.radix d.digits d.rest
from_sign tail sign [] signed d s e h = none_is_not d h
from_sign tail sign (letter ∷ u) signed d s e h = from_base tail sign u signed letter (radix_of letter) d s e refl h

pub digits_sound : (tail : List ℕ) (d : Parts) → digits_at tail ≡ Some d → Digits tail d.signed d.radix d.digits d.rest
unfolding digits_at
digits_sound [] d h = from_sign [] [] [] false d unmarked refl h
digits_sound (b ∷ u) d h =
    elim (cases_Bool (is_sign b)) [
      | inl s ↦ from_sign (b ∷ u) (b ∷ []) u true d (marked s) refl (ap (λ (p : Bool × List ℕ). base_at p.0 p.1) (sym (cond-true (is_sign b) (true, u) (false, b ∷ u) s)) ∙ h)
      | inr s ↦ from_sign (b ∷ u) [] (b ∷ u) false d unmarked refl (ap (λ (p : Bool × List ℕ). base_at p.0 p.1) (sym (cond-false (is_sign b) (true, u) (false, b ∷ u) s)) ∙ h)
    ]

-- what is spelled so is read
radix_no_sign : (letter radix : ℕ) → radix_of letter ≡ Some radix → is_sign letter ≡ false
unfolding radix_of is_sign
radix_no_sign letter radix h =
    elim (cases_Bool ((letter == 115) || (letter == 83))) [
      | inl s ↦ elim (or_cases _ _ s) [
        | inl e ↦ none_is_not radix (ap radix_of (sym (eqb-true letter 115 e)) ∙ h)
        | inr e ↦ none_is_not radix (ap radix_of (sym (eqb-true letter 83 e)) ∙ h)
      ]
      | inr s ↦ s
    ]

first_digit_not_white : (radix b : ℕ) → is_first_digit radix b ≡ true → is_white b ≡ false
unfolding is_first_digit is_digit is_hex is_x is_z is_white
first_digit_not_white radix b h = grind (arith, nat_tests)

behind_sign : {sign : List ℕ} {signed : Bool} → IsSign sign signed → (letter radix : ℕ) (u : List ℕ) → radix_of letter ≡ Some radix → sign_at (sign ++ (letter ∷ u)) ≡ (signed, letter ∷ u)
behind_sign unmarked letter radix u r = cond-false (is_sign letter) _ _ (radix_no_sign letter radix r)
behind_sign (marked {b} h) letter radix u r = cond-true (is_sign b) _ _ h

pub digits_complete : (tail : List ℕ) (signed : Bool) (radix : ℕ) (digits rest : List ℕ) → Digits tail signed radix digits rest → digits_at tail ≡ Some (record { signed = signed; radix = radix; digits = digits; rest = rest })
unfolding digits_at
digits_complete tail signed radix digits rest k =
    let u : List ℕ = k.gap ++ (k.first ∷ (k.more ++ rest)) in
    let at_sign : sign_at tail ≡ (signed, k.letter ∷ u) = ap sign_at k.spelled ∙ behind_sign k.is_sign k.letter radix u k.is_base in
    let at_gap : past is_white u ≡ k.first ∷ (k.more ++ rest) = past_is is_white k.gap (k.first ∷ (k.more ++ rest)) k.is_gap (first_digit_not_white radix k.first k.is_first) in
    ap (λ (p : Bool × List ℕ). base_at p.0 p.1) at_sign
    ∙ rw (k.is_base, at_gap, k.is_first, run_is (is_further_digit radix k.first) k.more rest k.are_digits k.ends, past_is (is_further_digit radix k.first) k.more rest k.are_digits k.ends, k.digits_are) refl

-- ---- what a number passes

digits_passed : {tail : List ℕ} {signed : Bool} {radix : ℕ} {digits rest : List ℕ} → Digits tail signed radix digits rest → (front : List ℕ) × (tail ≡ front ++ rest)
digits_passed {rest = rest} k =
    (k.sign ++ (k.letter ∷ (k.gap ++ (k.first ∷ k.more))), k.spelled ∙ simp append_assoc)

based_passed : (text size tail rest : List ℕ) → Based text size tail → (front : List ℕ) × (tail ≡ front ++ rest) → Passed text rest
based_passed text size tail rest b p = record {
  bytes = size ++ (b.gap ++ (39 ∷ p.0));
  spelled = b.spelled ∙ ap (λ (s : List ℕ). size ++ (b.gap ++ (39 ∷ s))) p.1 ∙ simp append_assoc;
  shorter = omega (arith, ap length b.spelled, length-append size (b.gap ++ (39 ∷ tail)), length-append b.gap (39 ∷ tail), ap length p.1, length-append p.0 rest);
}

-- a text that begins a number, so that its cause is a number's
abbrev pub IsNumber : List ℕ → Type 0
IsNumber text = (cause : ℕ) → NumberFault text cause → IsCause text cause

number_says_by : (text size tail : List ℕ) (d : Parts) (r : Result Number ℕ) → Based text size tail → Digits tail d.signed d.radix d.digits d.rest → number_of size d.signed d.radix d.digits ≡ r → IsNumber text → Says text (number_found r d.rest)
number_says_by text size tail d (Ok n) b k e is = (based_passed text size tail d.rest b (digits_passed k), based b k e)
number_says_by text size tail d (Err cause) b k e is = is cause (no_number b k e)

based_says_by : (text size tail : List ℕ) (o : Option Parts) → Based text size tail → digits_at tail ≡ o → IsNumber text → Says text (based_by size o)
based_says_by text size tail None b e is = is 4 (no_digits b (λ signed radix digits rest k. none_is_not _ (sym e ∙ digits_complete tail signed radix digits rest k)) refl)
based_says_by text size tail (Some d) b e is = number_says_by text size tail d (number_of size d.signed d.radix d.digits) b (digits_sound tail d e) refl is

based_says : (text size tail : List ℕ) → Based text size tail → IsNumber text → Says text (based_by size (digits_at tail))
based_says text size tail b is = based_says_by text size tail (digits_at tail) b refl is

-- ---- plain numbers

apostrophe_no_white : is_white 39 ≡ false
unfolding is_white
apostrophe_no_white = refl

apostrophe_no_decimal : is_decimal 39 ≡ false
unfolding is_decimal is_figure
apostrophe_no_decimal = refl

plain_passed : (text digits rest : List ℕ) → Plain text digits rest → Passed text rest
plain_passed text [] rest k = absurd k.is_plain
plain_passed text (b ∷ bs) rest k = record { bytes = b ∷ bs; spelled = k.spelled; shorter = omega (arith, ap length k.spelled, length-append bs rest) }

plain_says : (text digits rest : List ℕ) → Plain text digits rest → IsNumber text → Says text (plain_at digits rest)
unfolding plain_at
plain_says text digits rest k is =
    cond_both (nat_le (2 ^ 32) (value_of 10 digits)) (stuck 5) (found (t.Number (plain_number digits)) rest) (λ n. Says text n)
    (λ e. is 5 (too_wide k (leb-true (2 ^ 32) (value_of 10 digits) e) refl))
    (λ e. (plain_passed text digits rest k, plain k (leb-false (2 ^ 32) (value_of 10 digits) e)))

-- no based number begins where the white space isn't followed by an apostrophe
alone_by : (rest behind : List ℕ) → past is_white rest ≡ behind → ((tail : List ℕ) → behind ≡ 39 ∷ tail → ⊥) → (gap tail : List ℕ) → Are is_white gap → rest ≡ gap ++ (39 ∷ tail) → ⊥
alone_by rest behind e h gap tail w k = h tail (sym e ∙ ap (past is_white) k ∙ past_is is_white gap (39 ∷ tail) w apostrophe_no_white)

behind_says : (text size after behind : List ℕ) → text ≡ size ++ after → IsPlain size → Ends is_decimal after → past is_white after ≡ behind → IsNumber text → Says text (behind_size size after behind)
behind_says text [] after behind e p ends g is = absurd p
behind_says text (s ∷ ss) after [] e p ends g is =
    plain_says text (s ∷ ss) after (record { spelled = e; is_plain = p; ends = ends; alone = alone_by after [] g (λ tail k. absurd cc) }) is
behind_says text (s ∷ ss) after (b ∷ tail) e p ends g is =
    cond_both (b == 39) (based_by (s ∷ ss) (digits_at tail)) (plain_at (s ∷ ss) after) (λ n. Says text n)
    (λ h. based_says text (s ∷ ss) tail (record {
      gap = run is_white after;
      spelled = e ∙ ap (λ (u : List ℕ). s ∷ (ss ++ u)) (run_and_past is_white after ∙ ap (λ (u : List ℕ). run is_white after ++ u) (g ∙ ap (λ (c : ℕ). c ∷ tail) (eqb-true b 39 h)));
      is_size = p;
      is_space = run_passes is_white after;
    }) is)
    (λ h. plain_says text (s ∷ ss) after (record { spelled = e; is_plain = p; ends = ends; alone = alone_by after (b ∷ tail) g (λ tl k. let same : b ≡ 39 = cc in both_ways _ h (eq-eqb b 39 same)) }) is)

figure_is_decimal : (b : ℕ) → is_figure b ≡ true → is_decimal b ≡ true
unfolding is_decimal
figure_is_decimal b h = or_left _ _ h

not_slash : (b : ℕ) → is_figure b ≡ true → (47 == b) ≡ false
unfolding is_figure
not_slash b h = grind (arith, nat_tests)

not_paren : (b : ℕ) → is_figure b ≡ true → (40 == b) ≡ false
unfolding is_figure
not_paren b h = grind (arith, nat_tests)

not_quote : (b : ℕ) → is_figure b ≡ true → (b == 34) ≡ false
unfolding is_figure
not_quote b h = grind (arith, nat_tests)

figure_cause : (b : ℕ) (bs : List ℕ) → is_figure b ≡ true → IsNumber (b ∷ bs)
unfolding opens_block opens_attribute
figure_cause b bs h cause k =
    rw (not_slash b h, not_paren b h, not_quote b h, h) k

run_figure : (b : ℕ) (bs : List ℕ) → is_figure b ≡ true → run is_decimal (b ∷ bs) ≡ b ∷ run is_decimal bs
unfolding run
run_figure b bs h = rw (figure_is_decimal b h) refl

past_figure : (b : ℕ) (bs : List ℕ) → is_figure b ≡ true → past is_decimal (b ∷ bs) ≡ past is_decimal bs
unfolding past
past_figure b bs h = rw (figure_is_decimal b h) refl

pub figure_says : (b : ℕ) (bs : List ℕ) → is_figure b ≡ true → Says (b ∷ bs) (number_at (b ∷ bs))
unfolding number_at
figure_says b bs h =
    rw (run_figure b bs h, past_figure b bs h) (behind_says (b ∷ bs) (b ∷ run is_decimal bs) (past is_decimal bs) (past is_white (past is_decimal bs)) (ap (λ (s : List ℕ). b ∷ s) (run_and_past is_decimal bs)) (h, run_passes is_decimal bs) (past_ends is_decimal bs) refl (figure_cause b bs h))

number_39 : (bs : List ℕ) → number_at (39 ∷ bs) ≡ based_by [] (digits_at bs)
unfolding number_at run past is_decimal is_figure is_white
number_39 bs = refl

cause_39 : (bs : List ℕ) → IsNumber (39 ∷ bs)
unfolding opens_block opens_attribute is_figure
cause_39 bs cause k = k

pub apostrophe_says : (b : ℕ) (bs : List ℕ) → b ≡ 39 → Says (b ∷ bs) (number_at (b ∷ bs))
apostrophe_says b bs e =
    subst (λ (c : ℕ). Says (c ∷ bs) (number_at (c ∷ bs))) (sym e) (rw (number_39 bs) (based_says (39 ∷ bs) [] bs (record { gap = []; spelled = refl; is_size = tt; is_space = refl }) (cause_39 bs)))

-- ---- what is spelled so is read

white_no_decimal : (b : ℕ) → is_white b ≡ true → is_decimal b ≡ false
unfolding is_white is_decimal is_figure
white_no_decimal b h = grind (arith, nat_tests)

space_ends : (gap tail : List ℕ) → Are is_white gap → Ends is_decimal (gap ++ (39 ∷ tail))
space_ends [] tail w = apostrophe_no_decimal
space_ends (b ∷ bs) tail w = white_no_decimal b (and_parts _ _ w).0

based_at : (text size tail : List ℕ) → Based text size tail → next text ≡ based_by size (digits_at tail)
unfolding next number_at
based_at text [] tail b =
    ap next (b.spelled ∙ ap (λ (s : List ℕ). s ++ (39 ∷ tail)) b.is_space) ∙ rw first_apostrophe (number_39 tail)
based_at text (s ∷ ss) tail b =
    let size : List ℕ = s ∷ ss in
    let are : Are is_decimal size = and_from _ _ (figure_is_decimal s b.is_size.0) b.is_size.1 in
    let ends = space_ends b.gap tail b.is_space in
    let first : run is_decimal (size ++ (b.gap ++ (39 ∷ tail))) ≡ size = run_is is_decimal size (b.gap ++ (39 ∷ tail)) are ends in
    let others : past is_decimal (size ++ (b.gap ++ (39 ∷ tail))) ≡ b.gap ++ (39 ∷ tail) = past_is is_decimal size (b.gap ++ (39 ∷ tail)) are ends in
    let behind : past is_white (b.gap ++ (39 ∷ tail)) ≡ 39 ∷ tail = past_is is_white b.gap (39 ∷ tail) b.is_space apostrophe_no_white in
    ap next b.spelled ∙ rw (first_figure s b.is_size.0) (sized_is (size ++ (b.gap ++ (39 ∷ tail))) size (b.gap ++ (39 ∷ tail)) tail first others behind)
  where
    sized_is : (text size after tail : List ℕ) → run is_decimal text ≡ size → past is_decimal text ≡ after → past is_white after ≡ 39 ∷ tail → number_at text ≡ based_by size (digits_at tail)
    sized_is text size after tail e g h = rw (e, g, h) refl

number_found_is : (tail size digits rest : List ℕ) (signed : Bool) (radix : ℕ) (r : Result Number ℕ) → Digits tail signed radix digits rest → number_of size signed radix digits ≡ r → based_by size (digits_at tail) ≡ number_found r rest
number_found_is tail size digits rest signed radix r k e = rw (digits_complete tail signed radix digits rest k, e) refl

pub based_read : (text size tail digits rest : List ℕ) (signed : Bool) (radix : ℕ) (n : Number) → Based text size tail → Digits tail signed radix digits rest → number_of size signed radix digits ≡ Ok n → next text ≡ found (t.Number n) rest
based_read text size tail digits rest signed radix n b k e = based_at text size tail b ∙ number_found_is tail size digits rest signed radix (Ok n) k e

plain_at_is : (text digits rest : List ℕ) → Plain text digits rest → next text ≡ plain_at digits rest
unfolding next number_at
plain_at_is text [] rest k = absurd k.is_plain
plain_at_is text (s ∷ ss) rest k =
    let digits : List ℕ = s ∷ ss in
    let are : Are is_decimal digits = and_from _ _ (figure_is_decimal s k.is_plain.0) k.is_plain.1 in
    ap next k.spelled ∙ rw (first_figure s k.is_plain.0) (plain_is (digits ++ rest) digits rest (past is_white rest) (run_is is_decimal digits rest are k.ends) (past_is is_decimal digits rest are k.ends) refl k.alone)
  where
    plain_is : (text digits rest behind : List ℕ) → run is_decimal text ≡ digits → past is_decimal text ≡ rest → past is_white rest ≡ behind → ((gap tail : List ℕ) → Are is_white gap → rest ≡ gap ++ (39 ∷ tail) → ⊥) → number_at text ≡ plain_at digits rest
    plain_is text digits rest [] e g h alone = rw (e, g, h) refl
    plain_is text digits rest (b ∷ tail) e g h alone =
        elim (cases_Bool (b == 39)) [
          | inl same ↦ absurd (alone (run is_white rest) tail (run_passes is_white rest) (run_and_past is_white rest ∙ ap (λ (u : List ℕ). run is_white rest ++ u) (h ∙ ap (λ (c : ℕ). c ∷ tail) (eqb-true b 39 same))))
          | inr other ↦ rw (e, g, h, other) refl
        ]

pub plain_read : (text digits rest : List ℕ) → Plain text digits rest → value_of 10 digits < 2 ^ 32 → next text ≡ found (t.Number (plain_number digits)) rest
unfolding plain_at
plain_read text digits rest k h = plain_at_is text digits rest k ∙ rw (lt-leb (2 ^ 32) (value_of 10 digits) h) refl

-- ---- the causes

pub fault_read : (text : List ℕ) (cause : ℕ) → NumberFault text cause → next text ≡ stuck cause
unfolding plain_at
fault_read text cause (too_wide {digits} {rest} k h e) = plain_at_is text digits rest k ∙ rw (le-leb (2 ^ 32) (value_of 10 digits) h, e) refl
fault_read text cause (no_number {size} {tail} {digits} {rest} {signed} {radix} b k e) = based_at text size tail b ∙ number_found_is tail size digits rest signed radix (Err cause) k e
fault_read text cause (no_digits {size} {tail} b h e) = based_at text size tail b ∙ none_is (digits_at tail) refl ∙ ap (λ n. stuck n) (sym e)
  where
    none_is : (o : Option Parts) → digits_at tail ≡ o → based_by size o ≡ stuck 4
    none_is None k = refl
    none_is (Some d) k = absurd (h d.signed d.radix d.digits d.rest (digits_sound tail d k))
