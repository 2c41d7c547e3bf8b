-- Gaps and marks: the reading and the relations are one.
use Rattle.std.proofs.Common.{◌≡◌, ℕ, ◌<◌, ◌≤◌, Bool, true, false, ◌==◌, ◌||◌, ◌&&◌, List, [], ◌∷◌, ◌++◌, length, take, drop, Option, Some, None, refl, sym, ap, subst, ◌∙◌, arith, ◌⊎◌, inl, inr}
use Rattle.std.specs.List.{list_all}
use Rattle.std.specs.Str.{bytes_eq}
use Rattle.std.proofs.lemmas.Bool.{or_parts, or_from, or_cases, or_left, or_right, and_parts, eq-eqb, eqb-true, cond_both, cond-false, cases_Bool, both_ways, true≢false}
use Rattle.std.proofs.lemmas.List.{take-append-drop, length-append, length-take, length-drop, append_assoc, take_at, drop_at}
use Rattle.std.proofs.lemmas.Slice.Eq.{bytes_eq-Decides}
use Rattle.vl_tree.specs.declared.token.TokenKind.TheVariants as t
use Rattle.vl_lex.specs.declared.bytes.First.{First}
use Rattle.vl_lex.specs.declared.bytes.First.TheVariants as f
use Rattle.vl_tree.specs.Bytes.{is_white, is_letter, is_figure, is_in_line, begins, past}
use Rattle.vl_tree.specs.Marks.{is_among, is_mark, marks_of_one, marks_of_two, marks_of_three, IsMark}
use Rattle.vl_tree.specs.Gaps.{opens, opens_line, opens_block, opens_attribute, is_directive, has_pair, IsGap, white, line_comment, block_comment, attribute, directive, IsUpTo, IsLine}
use Rattle.vl_tree.specs.Tokens.{mark}
use Rattle.vl_lex.specs.Reading.{run, first_of, sign_of, next, over, found, stuck, over_or, past_pair, mark_at, other_at, directive_at}
use Rattle.vl_lex.proofs.RunLaws.{run_and_past, run_passes, past_ends, past_is, chosen, some_is, none_is_not}
use Rattle.vl_lex.proofs.NextLaws.{Passed, passed_by, Says, first_white, first_grave, IsOf, nothing_96}
use Rattle.vl_tree.proofs.Shared.{begins_then}

-- ---- white space and directives

pub white_says : (b : ℕ) (bs : List ℕ) → is_white b ≡ true → Says (b ∷ bs) (over bs)
white_says b bs h = (passed_by b [] bs (b ∷ bs) refl, white {b = b} refl h)

pub white_read : (text rest : List ℕ) (b : ℕ) → text ≡ b ∷ rest → is_white b ≡ true → next text ≡ over rest
unfolding next
white_read text rest b e h = ap next e ∙ rw (first_white b h) refl

pub line_of : (text : List ℕ) → IsLine text (past is_in_line text)
line_of text = record { line = run is_in_line text; spelled = run_and_past is_in_line text; in_line = run_passes is_in_line text; ends = past_ends is_in_line text }

pub line_is : (text rest : List ℕ) → IsLine text rest → past is_in_line text ≡ rest
line_is text rest l = ap (past is_in_line) l.spelled ∙ past_is is_in_line l.line rest l.in_line l.ends

pub directive_says : (b : ℕ) (bs : List ℕ) → b ≡ 96 → Says (b ∷ bs) (directive_at bs)
unfolding directive_at
directive_says b bs e =
    subst (λ (c : ℕ). Says (c ∷ bs) (directive_at bs)) (sym e) (cond_both (is_directive bs) (over (past is_in_line bs)) (stuck 1) (λ n. Says (96 ∷ bs) n)
    (λ d. (passed_by 96 (run is_in_line bs) (past is_in_line bs) (96 ∷ bs) (ap (λ (s : List ℕ). 96 ∷ s) (run_and_past is_in_line bs)), directive {name = bs} refl d (line_of bs)))
    (λ _. nothing_96 bs))

pub directive_read : (text name rest : List ℕ) → text ≡ 96 ∷ name → is_directive name ≡ true → IsLine name rest → next text ≡ over rest
unfolding next directive_at
directive_read text name rest e d l = ap next e ∙ rw (first_grave, d, line_is name rest l) refl

-- ---- pairs

begins_before : (b a : ℕ) (s rest : List ℕ) → begins b (s ++ (a ∷ [])) ≡ begins b (s ++ (a ∷ rest))
begins_before b a [] rest = refl
begins_before b a (c ∷ s) rest = refl

pub pair_is : (a b : ℕ) (body rest : List ℕ) → has_pair a b (body ++ (a ∷ [])) ≡ false → past_pair a b (body ++ (a ∷ b ∷ rest)) ≡ Some rest
unfolding past_pair has_pair
pair_is a b [] rest h = rw (eq-eqb a a refl, eq-eqb b b refl) refl
pair_is a b (c ∷ body) rest h =
    let parts = or_parts ((c == a) && begins b (body ++ (a ∷ []))) (has_pair a b (body ++ (a ∷ []))) h in
    let here : ((c == a) && begins b (body ++ (a ∷ b ∷ rest))) ≡ false = ap (λ v. (c == a) && v) (sym (begins_before b a body (b ∷ rest))) ∙ parts.0 in
    cond-false _ _ _ here ∙ pair_is a b body rest parts.1

pair_at : (a b c : ℕ) (cs rest : List ℕ) → ((c == a) && begins b cs) ≡ true → drop 1 cs ≡ rest → IsUpTo a b (c ∷ cs) rest
unfolding has_pair
pair_at a b c cs rest h e =
    let parts = and_parts (c == a) (begins b cs) h in
    record {
      body = [];
      spelled = ap (λ x. x ∷ cs) (eqb-true c a parts.0) ∙ ap (λ (s : List ℕ). a ∷ s) (begins_then b cs parts.1 ∙ ap (λ (s : List ℕ). b ∷ s) e);
      is_first = elim (a == a) as (λ v. ((v && false) || false) ≡ false) [ true ↦ refl | false ↦ refl ];
    }

pair_later : (a b c : ℕ) (cs rest : List ℕ) → ((c == a) && begins b cs) ≡ false → IsUpTo a b cs rest → IsUpTo a b (c ∷ cs) rest
unfolding has_pair
pair_later a b c cs rest h u =
    let before : begins b (u.body ++ (a ∷ [])) ≡ begins b cs = begins_before b a u.body (b ∷ rest) ∙ ap (begins b) (sym u.spelled) in
    record {
      body = c ∷ u.body;
      spelled = ap (λ (s : List ℕ). c ∷ s) u.spelled;
      is_first = or_from _ _ (ap (λ v. (c == a) && v) before ∙ h) u.is_first;
    }

pub pair_says : (a b : ℕ) (text rest : List ℕ) → past_pair a b text ≡ Some rest → IsUpTo a b text rest
unfolding past_pair
pair_says a b [] rest h = none_is_not rest h
pair_says a b (c ∷ cs) rest h =
    elim (chosen ((c == a) && begins b cs) (Some (drop 1 cs)) (past_pair a b cs) (Some rest) h) [
      | inl p ↦ pair_at a b c cs rest p.0 (some_is _ _ p.1)
      | inr p ↦ pair_later a b c cs rest p.0 (pair_says a b cs rest p.1)
    ]

pub pair_read : (a b : ℕ) (text rest : List ℕ) → IsUpTo a b text rest → past_pair a b text ≡ Some rest
pair_read a b text rest u = ap (past_pair a b) u.spelled ∙ pair_is a b u.body rest u.is_first

-- ---- comments and attributes

-- what stands behind two bytes, or more
passed_two : (b : ℕ) (bs front rest : List ℕ) → drop 1 bs ≡ front ++ rest → Passed (b ∷ bs) rest
passed_two b bs front rest e =
    record {
      bytes = b ∷ (take 1 bs ++ front);
      spelled = ap (λ (s : List ℕ). b ∷ s) (sym (take-append-drop 1 bs) ∙ ap (λ (s : List ℕ). take 1 bs ++ s) e ∙ sym (append_assoc (take 1 bs) front rest));
      shorter = omega (arith, length-drop 1 bs, ap length e, length-append front rest);
    }

up_to_passed : (a b c : ℕ) (bs rest : List ℕ) → IsUpTo a b (drop 1 bs) rest → Passed (c ∷ bs) rest
up_to_passed a b c bs rest u = passed_two c bs (u.body ++ (a ∷ b ∷ [])) rest (u.spelled ∙ sym (append_assoc u.body (a ∷ b ∷ []) rest))

over_or_says : (text : List ℕ) (cause : ℕ) (o : Option (List ℕ)) → ((rest : List ℕ) → o ≡ Some rest → Says text (over rest)) → Says text (stuck cause) → Says text (over_or cause o)
over_or_says text cause None h k = k
over_or_says text cause (Some rest) h k = h rest refl

-- a slash opens comments, and a parenthesis attributes
slash_first : (b : ℕ) (bs : List ℕ) → opens_line (b ∷ bs) ≡ true → b ≡ 47
unfolding opens_line
slash_first b bs h = sym (eqb-true 47 b (and_parts _ _ h).0)

block_first : (b : ℕ) (bs : List ℕ) → opens_block (b ∷ bs) ≡ true → b ≡ 47
unfolding opens_block
block_first b bs h = sym (eqb-true 47 b (and_parts _ _ h).0)

attribute_first : (b : ℕ) (bs : List ℕ) → opens_attribute (b ∷ bs) ≡ true → b ≡ 40
unfolding opens_attribute
attribute_first b bs h = sym (eqb-true 40 b (and_parts _ _ (and_parts _ _ h).0).0)

first_47 : first_of 47 ≡ f.Other
unfolding first_of sign_of is_white is_letter is_figure
first_47 = refl

first_40 : first_of 40 ≡ f.Other
unfolding first_of sign_of is_white is_letter is_figure
first_40 = refl

block_no_line : (text : List ℕ) → opens_block text ≡ true → opens_line text ≡ false
unfolding opens_block opens_line
block_no_line [] h = absurd cc
block_no_line (b ∷ []) h = absurd (true≢false (sym (and_parts (47 == b) false h).1))
block_no_line (b ∷ c ∷ bs) h =
    let star : 42 ≡ c = eqb-true 42 c (and_parts _ _ (and_parts _ _ h).1).0 in
    rw (← star) (elim (47 == b) as (λ v. (v && false) ≡ false) [ true ↦ refl | false ↦ refl ])

paren_no_slash : (b : ℕ) (bs : List ℕ) → b ≡ 40 → (opens_line (b ∷ bs) ≡ false) × (opens_block (b ∷ bs) ≡ false)
unfolding opens_line opens_block
paren_no_slash b bs e = rw e (refl, refl)

nil_line : opens_line [] ≡ true → ⊥
unfolding opens_line
nil_line h = absurd cc

nil_block : opens_block [] ≡ true → ⊥
unfolding opens_block
nil_block h = absurd cc

nil_attribute : opens_attribute [] ≡ true → ⊥
unfolding opens_attribute
nil_attribute h = absurd cc

pub line_read : (text rest : List ℕ) → opens_line text ≡ true → IsLine (drop 2 text) rest → next text ≡ over rest
unfolding next other_at
line_read [] rest h l = absurd (nil_line h)
line_read (b ∷ bs) rest h l = rw (ap first_of (slash_first b bs h) ∙ first_47, h, line_is (drop 2 (b ∷ bs)) rest l) refl

pub block_read : (text rest : List ℕ) → opens_block text ≡ true → IsUpTo 42 47 (drop 2 text) rest → next text ≡ over rest
unfolding next other_at
block_read [] rest h u = absurd (nil_block h)
block_read (b ∷ bs) rest h u = rw (ap first_of (block_first b bs h) ∙ first_47, block_no_line (b ∷ bs) h, h, pair_read 42 47 (drop 2 (b ∷ bs)) rest u) refl

pub attribute_read : (text rest : List ℕ) → opens_attribute text ≡ true → IsUpTo 42 41 (drop 2 text) rest → next text ≡ over rest
unfolding next other_at
attribute_read [] rest h u = absurd (nil_attribute h)
attribute_read (b ∷ bs) rest h u =
    let p = attribute_first b bs h in
    rw (ap first_of p ∙ first_40, (paren_no_slash b bs p).0, (paren_no_slash b bs p).1, h, pair_read 42 41 (drop 2 (b ∷ bs)) rest u) refl

-- every gap is read
pub gap_read : (text rest : List ℕ) → IsGap text rest → next text ≡ over rest
gap_read text rest (white {b} e h) = white_read text rest b e h
gap_read text rest (line_comment h l) = line_read text rest h l
gap_read text rest (block_comment h u) = block_read text rest h u
gap_read text rest (attribute h u) = attribute_read text rest h u
gap_read text rest (directive {name} e h l) = directive_read text name rest e h l

-- ---- marks

among_all : (p : List ℕ → Bool) (marks : List (List ℕ)) (s : List ℕ) → list_all p marks ≡ true → is_among marks s ≡ true → p s ≡ true
among_all p [] s h k = absurd cc
among_all p (m ∷ ms) s h k =
    let parts = and_parts (p m) (list_all p ms) h in
    elim (or_cases (bytes_eq s m) (is_among ms s) k) [
      | inl e ↦ ap p ((bytes_eq-Decides s m).0 e) ∙ parts.0
      | inr e ↦ among_all p ms s parts.1 e
    ]

abbrev has_length : ℕ → List ℕ → Bool
has_length n s = length s == n

three_long : (s : List ℕ) → is_among marks_of_three s ≡ true → length s ≡ 3
three_long s h = eqb-true (length s) 3 (among_all (has_length 3) marks_of_three s refl h)

two_long : (s : List ℕ) → is_among marks_of_two s ≡ true → length s ≡ 2
two_long s h = eqb-true (length s) 2 (among_all (has_length 2) marks_of_two s refl h)

one_long : (s : List ℕ) → is_among marks_of_one s ≡ true → length s ≡ 1
one_long s h = eqb-true (length s) 1 (among_all (has_length 1) marks_of_one s refl h)

-- of which length a mark is
mark_cases : (s : List ℕ) → is_mark s ≡ true → (is_among marks_of_three s ≡ true) ⊎ ((is_among marks_of_two s ≡ true) ⊎ (is_among marks_of_one s ≡ true))
unfolding is_mark
mark_cases s h = elim (or_cases _ _ h) [ inl a ↦ inl a | inr a ↦ elim (or_cases _ _ a) [ inl b ↦ inr (inl b) | inr b ↦ inr (inr b) ] ]

three_is_mark : (s : List ℕ) → is_among marks_of_three s ≡ true → is_mark s ≡ true
unfolding is_mark
three_is_mark s h = or_left _ _ h

two_is_mark : (s : List ℕ) → is_among marks_of_two s ≡ true → is_mark s ≡ true
unfolding is_mark
two_is_mark s h = or_right _ _ (or_left _ _ h)

one_is_mark : (s : List ℕ) → is_among marks_of_one s ≡ true → is_mark s ≡ true
unfolding is_mark
one_is_mark s h = or_right _ _ (or_right _ _ h)

-- what stands at the front of the text has its bytes
front_is : (n : ℕ) (text s rest : List ℕ) → text ≡ s ++ rest → length s ≡ n → take n text ≡ s
front_is n text s rest e h = ap (take n) e ∙ take_at s rest n h

back_is : (n : ℕ) (text s rest : List ℕ) → text ≡ s ++ rest → length s ≡ n → drop n text ≡ rest
back_is n text s rest e h = ap (drop n) e ∙ drop_at s rest n h

at_most_three : (text other more : List ℕ) → text ≡ other ++ more → is_mark other ≡ true → length other ≤ 3
at_most_three text other more e h = elim (mark_cases other h) [
  | inl a ↦ omega (arith, three_long other a)
  | inr a ↦ elim a [ inl b ↦ omega (arith, two_long other b) | inr b ↦ omega (arith, one_long other b) ]
]

at_most_two : (text other more : List ℕ) → is_among marks_of_three (take 3 text) ≡ false → text ≡ other ++ more → is_mark other ≡ true → length other ≤ 2
at_most_two text other more miss e h = elim (mark_cases other h) [
  | inl a ↦ absurd (both_ways _ miss (ap (is_among marks_of_three) (front_is 3 text other more e (three_long other a)) ∙ a))
  | inr a ↦ elim a [ inl b ↦ omega (arith, two_long other b) | inr b ↦ omega (arith, one_long other b) ]
]

at_most_one : (text other more : List ℕ) → is_among marks_of_three (take 3 text) ≡ false → is_among marks_of_two (take 2 text) ≡ false → text ≡ other ++ more → is_mark other ≡ true → length other ≤ 1
at_most_one text other more miss miss2 e h = elim (mark_cases other h) [
  | inl a ↦ absurd (both_ways _ miss (ap (is_among marks_of_three) (front_is 3 text other more e (three_long other a)) ∙ a))
  | inr a ↦ elim a [
    | inl b ↦ absurd (both_ways _ miss2 (ap (is_among marks_of_two) (front_is 2 text other more e (two_long other b)) ∙ b))
    | inr b ↦ omega (arith, one_long other b)
  ]
]

-- a mark of n bytes is passed
mark_found : (n : ℕ) (text : List ℕ) → opens text ≡ false → 0 < n → length (take n text) ≡ n → is_mark (take n text) ≡ true
    → ((other more : List ℕ) → text ≡ other ++ more → is_mark other ≡ true → length other ≤ n) → Says text (found (t.Mark (take n text)) (drop n text))
mark_found n text o pos len h longest =
    let split : text ≡ take n text ++ drop n text = sym (take-append-drop n text) in (
      record { bytes = take n text; spelled = split; shorter = omega (arith, length-drop n text, length-take n text) },
      mark (record { spelled = split; is_one = h; longest = λ other more e k. omega (arith, longest other more e k) }) o,
    )

mark_says : (text : List ℕ) → opens text ≡ false → Says text (stuck 1) → Says text (mark_at text)
unfolding mark_at
mark_says text o k =
    cond_both (is_among marks_of_three (take 3 text)) _ _ (λ n. Says text n)
    (λ h. mark_found 3 text o (omega arith) (three_long (take 3 text) h) (three_is_mark (take 3 text) h) (λ other more e m. at_most_three text other more e m))
    (λ miss. cond_both (is_among marks_of_two (take 2 text)) _ _ (λ n. Says text n)
    (λ h. mark_found 2 text o (omega arith) (two_long (take 2 text) h) (two_is_mark (take 2 text) h) (λ other more e m. at_most_two text other more miss e m))
    (λ miss2. cond_both (is_among marks_of_one (take 1 text)) _ _ (λ n. Says text n)
    (λ h. mark_found 1 text o (omega arith) (one_long (take 1 text) h) (one_is_mark (take 1 text) h) (λ other more e m. at_most_one text other more miss miss2 e m))
    (λ _. k)))

abbrev is_other : First → Bool
is_other f.Other = true
is_other _ = false

is_other-true : (x : First) → is_other x ≡ true → x ≡ f.Other
is_other-true f.Other h = refl
is_other-true f.White h = absurd cc
is_other-true f.Letter h = absurd cc
is_other-true f.Figure h = absurd cc
is_other-true f.Apostrophe h = absurd cc
is_other-true f.Quote h = absurd cc
is_other-true f.Dollar h = absurd cc
is_other-true f.Backslash h = absurd cc
is_other-true f.Grave h = absurd cc

abbrev other_first : List ℕ → Bool
other_first [] = false
other_first (b ∷ bs) = is_other (first_of b)

mark_first : (s : List ℕ) → is_mark s ≡ true → other_first s ≡ true
unfolding is_mark first_of sign_of is_white is_letter is_figure
mark_first s h = elim (mark_cases s h) [
  | inl a ↦ among_all other_first marks_of_three s refl a
  | inr a ↦ elim a [ inl b ↦ among_all other_first marks_of_two s refl b | inr b ↦ among_all other_first marks_of_one s refl b ]
]

-- a longer mark at the front contradicts the longest one
no_longer : (n : ℕ) (text m rest : List ℕ) (table : List (List ℕ)) → IsMark text m rest → length m < n → ((s : List ℕ) → is_among table s ≡ true → length s ≡ n) → ((s : List ℕ) → is_among table s ≡ true → is_mark s ≡ true) → is_among table (take n text) ≡ false
no_longer n text m rest table k short long mark_of = elim (cases_Bool (is_among table (take n text))) [
  | inl h ↦ absurd (omega (arith, long (take n text) h, k.longest (take n text) (drop n text) (sym (take-append-drop n text)) (mark_of (take n text) h)))
  | inr h ↦ h
]

mark_at_is : (text m rest : List ℕ) → IsMark text m rest → mark_at text ≡ found (t.Mark m) rest
unfolding mark_at
mark_at_is text m rest k = elim (mark_cases m k.is_one) [
  | inl a ↦ rw (front_is 3 text m rest k.spelled (three_long m a), a, back_is 3 text m rest k.spelled (three_long m a)) refl
  | inr a ↦ elim a [
    | inl b ↦ rw (no_longer 3 text m rest marks_of_three k (omega (arith, two_long m b)) three_long three_is_mark, front_is 2 text m rest k.spelled (two_long m b), b, back_is 2 text m rest k.spelled (two_long m b)) refl
    | inr b ↦ rw (no_longer 3 text m rest marks_of_three k (omega (arith, one_long m b)) three_long three_is_mark, no_longer 2 text m rest marks_of_two k (omega (arith, one_long m b)) two_long two_is_mark, front_is 1 text m rest k.spelled (one_long m b), b, back_is 1 text m rest k.spelled (one_long m b)) refl
  ]
]

mark_nonempty : (bs m rest : List ℕ) (b : ℕ) → b ∷ bs ≡ m ++ rest → other_first m ≡ true → first_of b ≡ f.Other
mark_nonempty bs [] rest b e h = absurd cc
mark_nonempty bs (c ∷ m) rest b e h = let same : b ≡ c = cc in ap first_of same ∙ is_other-true (first_of c) h

no_mark_in_nil : (m rest : List ℕ) → [] ≡ m ++ rest → other_first m ≡ true → ⊥
no_mark_in_nil [] rest e h = absurd cc
no_mark_in_nil (c ∷ m) rest e h = absurd cc

pub mark_read : (text m rest : List ℕ) → IsMark text m rest → opens text ≡ false → next text ≡ found (t.Mark m) rest
unfolding next other_at opens
mark_read [] m rest k o = absurd (no_mark_in_nil m rest k.spelled (mark_first m k.is_one))
mark_read (b ∷ bs) m rest k o =
    let parts = or_parts (opens_line (b ∷ bs)) (opens_block (b ∷ bs) || opens_attribute (b ∷ bs)) o in
    let parts2 = or_parts (opens_block (b ∷ bs)) (opens_attribute (b ∷ bs)) parts.1 in
    rw (mark_nonempty bs m rest b k.spelled (mark_first m k.is_one), parts.0, parts2.0, parts2.1) (mark_at_is (b ∷ bs) m rest k)

-- ---- what stands at another byte

pub other_says : (b : ℕ) (bs : List ℕ) → IsOf f.Other b → Says (b ∷ bs) (other_at (b ∷ bs))
unfolding other_at opens
other_says b bs g =
    let text : List ℕ = b ∷ bs in
    cond_both (opens_line text) _ _ (λ n. Says text n)
    (λ h. (passed_two b bs (run is_in_line (drop 1 bs)) (past is_in_line (drop 1 bs)) (run_and_past is_in_line (drop 1 bs)), line_comment h (line_of (drop 1 bs))))
    (λ l. cond_both (opens_block text) _ _ (λ n. Says text n)
    (λ h. over_or_says text 2 (past_pair 42 47 (drop 1 bs)) (λ rest e. let u = pair_says 42 47 (drop 1 bs) rest e in (up_to_passed 42 47 b bs rest u, block_comment h u)) (rw h refl))
    (λ k. cond_both (opens_attribute text) _ _ (λ n. Says text n)
    (λ h. over_or_says text 2 (past_pair 42 41 (drop 1 bs)) (λ rest e. let u = pair_says 42 41 (drop 1 bs) rest e in (up_to_passed 42 41 b bs rest u, attribute h u)) (rw (k, h) refl))
    (λ a. mark_says text (or_from _ _ l (or_from _ _ k a)) (rw (k, a, g.2, g.0, g.1) refl))))
