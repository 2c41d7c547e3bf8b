-- What stands at the front of a text: the reading and the relations are one.
use Rattle.std.proofs.Common.{◌≡◌, ℕ, ◌<◌, Bool, true, false, ◌==◌, List, [], ◌∷◌, ◌++◌, length, refl, sym, ap, subst, ◌∙◌, arith}
use Rattle.std.proofs.lemmas.Bool.{and_from, eqb-true, cond_both}
use Rattle.std.proofs.lemmas.Bool.Decides.{nat_tests}
use Rattle.std.proofs.lemmas.List.{length-append}
use Rattle.vl_tree.specs.declared.token.TokenKind.TheVariants as t
use Rattle.vl_lex.specs.declared.bytes.First.{First}
use Rattle.vl_tree.specs.Faults.{IsCause}
use Rattle.vl_lex.specs.declared.bytes.First.TheVariants as f
use Rattle.vl_tree.specs.Bytes.{is_white, is_letter, is_figure, is_name_byte, is_printed, past, Are, Ends}
use Rattle.vl_tree.specs.Names.{IsName, IsEscaped, IsSystem, is_reserved}
use Rattle.vl_tree.specs.Gaps.{opens_block, opens_attribute, IsGap}
use Rattle.vl_tree.specs.Tokens.{IsToken, keyword, name, escaped_name, system_name, EndsAtWhite}
use Rattle.vl_lex.specs.Reading.{run, first_of, sign_of, next, Next, over, found, stuck, word_at, system_by, system_at, escaped_by, escaped_at, ends_at_white}
use Rattle.vl_lex.proofs.RunLaws.{run_and_past, run_passes, past_ends, run_is, past_is}

-- ---- first bytes

-- what is known of a byte by what begins with it
abbrev pub IsOf : First → ℕ → Type 0
IsOf f.White b = is_white b ≡ true
IsOf f.Letter b = is_letter b ≡ true
IsOf f.Figure b = is_figure b ≡ true
IsOf f.Apostrophe b = b ≡ 39
IsOf f.Quote b = b ≡ 34
IsOf f.Dollar b = b ≡ 36
IsOf f.Backslash b = b ≡ 92
IsOf f.Grave b = b ≡ 96
IsOf f.Other b = (is_figure b ≡ false) × ((b == 39) ≡ false) × ((b == 34) ≡ false)

pub first_is : (b : ℕ) → IsOf (first_of b) b
unfolding first_of sign_of
first_is b =
    cond_both (is_white b) f.White _ (λ x. IsOf x b) (λ e. e) (λ _.
    cond_both (is_letter b) f.Letter _ (λ x. IsOf x b) (λ e. e) (λ _.
    cond_both (is_figure b) f.Figure _ (λ x. IsOf x b) (λ e. e) (λ g.
    cond_both (b == 39) f.Apostrophe _ (λ x. IsOf x b) (λ e. eqb-true b 39 e) (λ a.
    cond_both (b == 34) f.Quote _ (λ x. IsOf x b) (λ e. eqb-true b 34 e) (λ q.
    cond_both (b == 36) f.Dollar _ (λ x. IsOf x b) (λ e. eqb-true b 36 e) (λ _.
    cond_both (b == 92) f.Backslash _ (λ x. IsOf x b) (λ e. eqb-true b 92 e) (λ _.
    cond_both (b == 96) f.Grave f.Other (λ x. IsOf x b) (λ e. eqb-true b 96 e) (λ _. (g, a, q)))))))))

pub first_white : (b : ℕ) → is_white b ≡ true → first_of b ≡ f.White
unfolding first_of
first_white b h = rw h refl

pub letter_not_white : (b : ℕ) → is_letter b ≡ true → is_white b ≡ false
unfolding is_letter is_white
letter_not_white b h = grind (arith, nat_tests)

pub figure_not_white : (b : ℕ) → is_figure b ≡ true → is_white b ≡ false
unfolding is_figure is_white
figure_not_white b h = grind (arith, nat_tests)

pub figure_not_letter : (b : ℕ) → is_figure b ≡ true → is_letter b ≡ false
unfolding is_figure is_letter
figure_not_letter b h = grind (arith, nat_tests)

pub first_letter : (b : ℕ) → is_letter b ≡ true → first_of b ≡ f.Letter
unfolding first_of
first_letter b h = rw (letter_not_white b h, h) refl

pub first_figure : (b : ℕ) → is_figure b ≡ true → first_of b ≡ f.Figure
unfolding first_of
first_figure b h = rw (figure_not_white b h, figure_not_letter b h, h) refl

pub first_apostrophe : first_of 39 ≡ f.Apostrophe
unfolding first_of sign_of is_white is_letter is_figure
first_apostrophe = refl

pub first_quote : first_of 34 ≡ f.Quote
unfolding first_of sign_of is_white is_letter is_figure
first_quote = refl

pub first_dollar : first_of 36 ≡ f.Dollar
unfolding first_of sign_of is_white is_letter is_figure
first_dollar = refl

pub first_backslash : first_of 92 ≡ f.Backslash
unfolding first_of sign_of is_white is_letter is_figure
first_backslash = refl

pub first_grave : first_of 96 ≡ f.Grave
unfolding first_of sign_of is_white is_letter is_figure
first_grave = refl

-- ---- what a reading says

pub record Passed (text rest : List ℕ) : Type 0 where
  pub bytes : List ℕ
  pub spelled : text ≡ bytes ++ rest
  pub shorter : length rest < length text

abbrev pub Says : List ℕ → Next → Type 0
Says text (over rest) = Passed text rest × IsGap text rest
Says text (found kind rest) = Passed text rest × IsToken text kind rest
Says text (stuck cause) = IsCause text cause

pub passed_by : (b : ℕ) (bs rest text : List ℕ) → text ≡ b ∷ (bs ++ rest) → Passed text rest
passed_by b bs rest text e = record { bytes = b ∷ bs; spelled = e; shorter = rw e (omega (arith, length-append bs rest)) }

-- bytes behind which nothing begins
pub nothing_36 : (bs : List ℕ) → IsCause (36 ∷ bs) 1
unfolding opens_block opens_attribute is_figure
nothing_36 bs = refl

pub nothing_92 : (bs : List ℕ) → IsCause (92 ∷ bs) 1
unfolding opens_block opens_attribute is_figure
nothing_92 bs = refl

pub nothing_96 : (bs : List ℕ) → IsCause (96 ∷ bs) 1
unfolding opens_block opens_attribute is_figure
nothing_96 bs = refl

-- ---- names

letter_is_name : (b : ℕ) → is_letter b ≡ true → is_name_byte b ≡ true
unfolding is_name_byte
letter_is_name b h = rw h refl

run_first : (p : ℕ → Bool) (b : ℕ) (bs : List ℕ) → p b ≡ true → run p (b ∷ bs) ≡ b ∷ run p bs
unfolding run
run_first p b bs h = rw h refl

past_first : (p : ℕ → Bool) (b : ℕ) (bs : List ℕ) → p b ≡ true → past p (b ∷ bs) ≡ past p bs
unfolding past
past_first p b bs h = rw h refl

pub word_says : (b : ℕ) (bs : List ℕ) → is_letter b ≡ true → Says (b ∷ bs) (word_at (b ∷ bs))
unfolding word_at
word_says b bs h =
    let text : List ℕ = b ∷ bs in
    let n = letter_is_name b h in
    let w : List ℕ = b ∷ run is_name_byte bs in
    let w-is : run is_name_byte (b ∷ bs) ≡ w = run_first is_name_byte b bs n in
    let r-is : past is_name_byte (b ∷ bs) ≡ past is_name_byte bs = past_first is_name_byte b bs n in
    let split : b ∷ bs ≡ b ∷ (run is_name_byte bs ++ past is_name_byte bs) = ap (λ (s : List ℕ). b ∷ s) (run_and_past is_name_byte bs) in
    let passed = passed_by b (run is_name_byte bs) (past is_name_byte bs) (b ∷ bs) split in
    let is_name : IsName w = (h, run_passes is_name_byte bs) in
    rw (w-is, r-is) (
      passed,
      cond_both (is_reserved w) (t.Keyword w) (t.Name w) (λ k. IsToken (b ∷ bs) k (past is_name_byte bs))
          (λ e. keyword split is_name (past_ends is_name_byte bs) e)
          (λ e. name split is_name (past_ends is_name_byte bs) e),
    )

pub keyword_read : (text word rest : List ℕ) → text ≡ word ++ rest → IsName word → Ends is_name_byte rest → is_reserved word ≡ true → next text ≡ found (t.Keyword word) rest
unfolding next word_at
keyword_read text [] rest e n ends r = absurd n
keyword_read text (b ∷ bs) rest e n ends r =
    let whole : run is_name_byte (b ∷ (bs ++ rest)) ≡ b ∷ bs = run_is is_name_byte (b ∷ bs) rest (and_from _ _ (letter_is_name b n.0) n.1) ends in
    let others : past is_name_byte (b ∷ (bs ++ rest)) ≡ rest = past_is is_name_byte (b ∷ bs) rest (and_from _ _ (letter_is_name b n.0) n.1) ends in
    ap next e ∙ rw (first_letter b n.0, whole, others, r) refl

pub name_read : (text word rest : List ℕ) → text ≡ word ++ rest → IsName word → Ends is_name_byte rest → is_reserved word ≡ false → next text ≡ found (t.Name word) rest
unfolding next word_at
name_read text [] rest e n ends r = absurd n
name_read text (b ∷ bs) rest e n ends r =
    let whole : run is_name_byte (b ∷ (bs ++ rest)) ≡ b ∷ bs = run_is is_name_byte (b ∷ bs) rest (and_from _ _ (letter_is_name b n.0) n.1) ends in
    let others : past is_name_byte (b ∷ (bs ++ rest)) ≡ rest = past_is is_name_byte (b ∷ bs) rest (and_from _ _ (letter_is_name b n.0) n.1) ends in
    ap next e ∙ rw (first_letter b n.0, whole, others, r) refl

-- ---- system names

dollar_is_name : is_name_byte 36 ≡ true
unfolding is_name_byte is_letter is_figure
dollar_is_name = refl

system_by_says : (bs word rest : List ℕ) → bs ≡ word ++ rest → Are is_name_byte word → Ends is_name_byte rest → Says (36 ∷ bs) (system_by (36 ∷ word) rest)
system_by_says bs [] rest e h ends = nothing_36 bs
system_by_says bs (c ∷ cs) rest e h ends =
    let split : 36 ∷ bs ≡ 36 ∷ (c ∷ cs ++ rest) = ap (λ (s : List ℕ). 36 ∷ s) e in
    (passed_by 36 (c ∷ cs) rest (36 ∷ bs) split, system_name {word = c ∷ cs} split h ends)

pub system_says : (b : ℕ) (bs : List ℕ) → b ≡ 36 → Says (b ∷ bs) (system_at (b ∷ bs))
unfolding system_at
system_says b bs e =
    let at_dollar : Says (36 ∷ bs) (system_by (run is_name_byte (36 ∷ bs)) (past is_name_byte (36 ∷ bs))) =
    rw (run_first is_name_byte 36 bs dollar_is_name, past_first is_name_byte 36 bs dollar_is_name) (system_by_says bs (run is_name_byte bs) (past is_name_byte bs) (run_and_past is_name_byte bs) (run_passes is_name_byte bs) (past_ends is_name_byte bs)) in
    subst (λ (c : ℕ). Says (c ∷ bs) (system_by (run is_name_byte (c ∷ bs)) (past is_name_byte (c ∷ bs)))) (sym e) at_dollar

pub system_read : (text word rest : List ℕ) → text ≡ 36 ∷ (word ++ rest) → IsSystem word → Ends is_name_byte rest → next text ≡ found (t.System (36 ∷ word)) rest
unfolding next system_at
system_read text [] rest e n ends = absurd n
system_read text (b ∷ bs) rest e n ends =
    let whole : run is_name_byte (36 ∷ (b ∷ bs ++ rest)) ≡ 36 ∷ b ∷ bs = run_is is_name_byte (36 ∷ b ∷ bs) rest (and_from _ _ dollar_is_name n) ends in
    let others : past is_name_byte (36 ∷ (b ∷ bs ++ rest)) ≡ rest = past_is is_name_byte (36 ∷ b ∷ bs) rest (and_from _ _ dollar_is_name n) ends in
    ap next e ∙ rw (first_dollar, whole, others) refl

-- ---- escaped names

EndsAtWhite-tested : (rest : List ℕ) → ends_at_white rest ≡ true → EndsAtWhite rest
EndsAtWhite-tested [] h = tt
EndsAtWhite-tested (b ∷ bs) h = h

tested-EndsAtWhite : (rest : List ℕ) → EndsAtWhite rest → ends_at_white rest ≡ true
tested-EndsAtWhite [] h = refl
tested-EndsAtWhite (b ∷ bs) h = h

escaped_by_says : (bs word rest : List ℕ) → bs ≡ word ++ rest → Are is_printed word → Says (92 ∷ bs) (escaped_by word rest)
escaped_by_says bs [] rest e h = nothing_92 bs
escaped_by_says bs (c ∷ cs) rest e h =
    let split : 92 ∷ bs ≡ 92 ∷ (c ∷ cs ++ rest) = ap (λ (s : List ℕ). 92 ∷ s) e in
    cond_both (ends_at_white rest) (found (t.Name (c ∷ cs)) rest) (stuck 1) (λ n. Says (92 ∷ bs) n)
    (λ w. (passed_by 92 (c ∷ cs) rest (92 ∷ bs) split, escaped_name {word = c ∷ cs} split h (EndsAtWhite-tested rest w)))
    (λ _. nothing_92 bs)

pub escaped_says : (b : ℕ) (bs : List ℕ) → b ≡ 92 → Says (b ∷ bs) (escaped_at bs)
unfolding escaped_at
escaped_says b bs e = subst (λ (c : ℕ). Says (c ∷ bs) (escaped_by (run is_printed bs) (past is_printed bs))) (sym e) (escaped_by_says bs (run is_printed bs) (past is_printed bs) (run_and_past is_printed bs) (run_passes is_printed bs))

white_not_printed : (b : ℕ) → is_white b ≡ true → is_printed b ≡ false
unfolding is_white is_printed
white_not_printed b h = grind (arith, nat_tests)

white_ends : (rest : List ℕ) → EndsAtWhite rest → Ends is_printed rest
white_ends [] h = tt
white_ends (b ∷ bs) h = white_not_printed b h

pub escaped_read : (text word rest : List ℕ) → text ≡ 92 ∷ (word ++ rest) → IsEscaped word → EndsAtWhite rest → next text ≡ found (t.Name word) rest
unfolding next escaped_at
escaped_read text [] rest e n ends = absurd n
escaped_read text (b ∷ bs) rest e n ends =
    let whole : run is_printed (b ∷ bs ++ rest) ≡ b ∷ bs = run_is is_printed (b ∷ bs) rest n (white_ends rest ends) in
    let others : past is_printed (b ∷ bs ++ rest) ≡ rest = past_is is_printed (b ∷ bs) rest n (white_ends rest ends) in
    ap next e ∙ rw (first_backslash, whole, others, tested-EndsAtWhite rest ends) refl
