-- A text that is cut behind a token or a gap: what stood at each place before the cut stands there still.
use Rattle.std.proofs.Common.{◌≡◌, ℕ, Bool, true, false, not, cond, ◌==◌, ◌||◌, ◌&&◌, List, [], ◌∷◌, ◌++◌, drop, refl, sym, ap, subst, ◌∙◌, ◌⊎◌, inl, inr}
use Rattle.std.specs.Prelude.{nat_eq, codes}
use Rattle.std.specs.List.{starts_with}
use Rattle.std.proofs.lemmas.Bool.{or_parts, or_from, or_cases, or_left, or_right, and_parts, and_from, eqb-true, cases_Bool, both_ways, true≢false}
use Rattle.std.proofs.lemmas.List.{append_assoc, append_cancel_right}
use Rattle.vl_tree.specs.declared.token.TokenKind.{TokenKind}
use Rattle.vl_tree.specs.Bytes.{is_white, is_octal, is_decimal, is_name_byte, is_in_line, begins, past, Are, Ends}
use Rattle.vl_tree.specs.Numbers.{is_further_digit, Digits, Based, Plain}
use Rattle.vl_tree.specs.Strings.{Item, plain as plain_item, escape, one_digit, two_digits, three_digits, Items, no_more, more, IsString}
use Rattle.vl_tree.specs.Marks.{IsMark}
use Rattle.vl_tree.specs.Gaps.{opens, opens_line, opens_block, opens_attribute, is_directive, IsGap, white, line_comment, block_comment, attribute, directive, IsUpTo, IsLine}
use Rattle.vl_tree.specs.Tokens.{EndsAtWhite, IsToken, keyword, name, escaped_name, system_name, plain, based, string, mark}

-- ---- cutting

-- what is passed before the cut is passed in the cut text
pub cut : (text after front mid rest word : List ℕ) → text ≡ front ++ rest → after ≡ mid ++ rest → text ≡ word ++ after → front ≡ word ++ mid
cut text after front mid rest word e f k = append_cancel_right front (word ++ mid) rest (sym e ∙ k ∙ ap (λ (s : List ℕ). word ++ s) f ∙ sym (append_assoc word mid rest))

ends_cut : (p : ℕ → Bool) (after mid rest : List ℕ) → after ≡ mid ++ rest → Ends p after → Ends p mid
ends_cut p after [] rest e h = tt
ends_cut p after (b ∷ mid) rest e h = subst (λ (s : List ℕ). Ends p s) e h

white_end_cut : (after mid rest : List ℕ) → after ≡ mid ++ rest → EndsAtWhite after → EndsAtWhite mid
white_end_cut after [] rest e h = tt
white_end_cut after (b ∷ mid) rest e h = subst (λ (s : List ℕ). EndsAtWhite s) e h

-- ---- gaps

line_cut : (text after front mid rest : List ℕ) → text ≡ front ++ rest → after ≡ mid ++ rest → opens_line text ≡ true → IsLine (drop 2 text) after → IsGap front mid
unfolding opens_line
line_cut [] after front mid rest e f h l = absurd cc
line_cut (a ∷ []) after front mid rest e f h l = absurd (true≢false (sym (and_parts (47 == a) false h).1))
line_cut (a ∷ b ∷ bs) after front mid rest e f h l =
    let split : front ≡ a ∷ b ∷ (l.line ++ mid) = cut (a ∷ b ∷ bs) after front mid rest (a ∷ b ∷ l.line) e f (ap (λ (s : List ℕ). a ∷ b ∷ s) l.spelled) in
    let line : IsLine (l.line ++ mid) mid = record { line = l.line; spelled = refl; in_line = l.in_line; ends = ends_cut is_in_line after mid rest f l.ends } in
    let whole : IsGap (a ∷ b ∷ (l.line ++ mid)) mid = line_comment h line in
    subst (λ (s : List ℕ). IsGap s mid) (sym split) whole

up_to_cut : (a b c d : ℕ) (bs after front mid rest : List ℕ) → a ∷ b ∷ bs ≡ front ++ rest → after ≡ mid ++ rest → (u : IsUpTo c d bs after) → front ≡ a ∷ b ∷ (u.body ++ (c ∷ d ∷ mid))
up_to_cut a b c d bs after front mid rest e f u =
    cut (a ∷ b ∷ bs) after front mid rest (a ∷ b ∷ (u.body ++ (c ∷ d ∷ []))) e f (ap (λ (s : List ℕ). a ∷ b ∷ s) (u.spelled ∙ sym (append_assoc u.body (c ∷ d ∷ []) after)))
    ∙ ap (λ (s : List ℕ). a ∷ b ∷ s) (append_assoc u.body (c ∷ d ∷ []) mid)

block_cut : (text after front mid rest : List ℕ) → text ≡ front ++ rest → after ≡ mid ++ rest → opens_block text ≡ true → IsUpTo 42 47 (drop 2 text) after → IsGap front mid
unfolding opens_block
block_cut [] after front mid rest e f h u = absurd cc
block_cut (a ∷ []) after front mid rest e f h u = absurd (true≢false (sym (and_parts (47 == a) false h).1))
block_cut (a ∷ b ∷ bs) after front mid rest e f h u =
    let upto : IsUpTo 42 47 (u.body ++ (42 ∷ 47 ∷ mid)) mid = record { body = u.body; spelled = refl; is_first = u.is_first } in
    let whole : IsGap (a ∷ b ∷ (u.body ++ (42 ∷ 47 ∷ mid))) mid = block_comment h upto in
    subst (λ (s : List ℕ). IsGap s mid) (sym (up_to_cut a b 42 47 bs after front mid rest e f u)) whole

-- what white space and a star are followed by doesn't matter
same_begin : (body s t : List ℕ) → begins 41 (past is_white (body ++ (42 ∷ s))) ≡ begins 41 (past is_white (body ++ (42 ∷ t)))
unfolding past is_white
same_begin [] s t = refl
same_begin (c ∷ body) s t =
    elim (is_white c) as (λ v. begins 41 (cond v (past is_white (body ++ (42 ∷ s))) (c ∷ (body ++ (42 ∷ s)))) ≡ begins 41 (cond v (past is_white (body ++ (42 ∷ t))) (c ∷ (body ++ (42 ∷ t))))) [ true ↦ same_begin body s t | false ↦ refl ]

attribute_cut : (text after front mid rest : List ℕ) → text ≡ front ++ rest → after ≡ mid ++ rest → opens_attribute text ≡ true → IsUpTo 42 41 (drop 2 text) after → IsGap front mid
unfolding opens_attribute
attribute_cut [] after front mid rest e f h u = absurd cc
attribute_cut (a ∷ []) after front mid rest e f h u = absurd (true≢false (sym (and_parts (40 == a) false (and_parts _ _ h).0).1))
attribute_cut (a ∷ b ∷ bs) after front mid rest e f h u =
    let upto : IsUpTo 42 41 (u.body ++ (42 ∷ 41 ∷ mid)) mid = record { body = u.body; spelled = refl; is_first = u.is_first } in
    let parts = and_parts ((40 == a) && ((42 == b) && true)) (not (begins 41 (past is_white bs))) h in
    let same : begins 41 (past is_white bs) ≡ begins 41 (past is_white (u.body ++ (42 ∷ 41 ∷ mid))) = ap (λ (s : List ℕ). begins 41 (past is_white s)) u.spelled ∙ same_begin u.body (41 ∷ after) (41 ∷ mid) in
    let opened : opens_attribute (a ∷ b ∷ (u.body ++ (42 ∷ 41 ∷ mid))) ≡ true = and_from _ _ parts.0 (ap not (sym same) ∙ parts.1) in
    let whole : IsGap (a ∷ b ∷ (u.body ++ (42 ∷ 41 ∷ mid))) mid = attribute opened upto in
    subst (λ (s : List ℕ). IsGap s mid) (sym (up_to_cut a b 42 41 bs after front mid rest e f u)) whole

-- a word without a newline at the front of a line lies within the line
word_in_line : (word line after mid : List ℕ) → Are is_in_line word → Ends is_in_line after → starts_with nat_eq (line ++ after) word ≡ true → starts_with nat_eq (line ++ mid) word ≡ true
word_in_line [] line after mid w ends h = refl
word_in_line (n ∷ ns) [] [] mid w ends h = absurd cc
word_in_line (n ∷ ns) [] (b ∷ bs) mid w ends h =
    let same : n ≡ b = eqb-true n b (and_parts _ _ h).0 in
    absurd (both_ways _ ends (ap is_in_line (sym same) ∙ (and_parts _ _ w).0))
word_in_line (n ∷ ns) (l ∷ ls) after mid w ends h =
    let parts = and_parts (n == l) (starts_with nat_eq (ls ++ after) ns) h in
    and_from _ _ parts.0 (word_in_line ns ls after mid (and_parts _ _ w).1 ends parts.1)

directive_kept : (line after mid : List ℕ) → Ends is_in_line after → is_directive (line ++ after) ≡ true → is_directive (line ++ mid) ≡ true
unfolding is_directive is_in_line
directive_kept line after mid ends h = elim (or_cases _ _ h) [
  | inl a ↦ or_left _ _ (word_in_line (codes "timescale") line after mid refl ends a)
  | inr a ↦ or_right _ _ (word_in_line (codes "default_nettype") line after mid refl ends a)
]

directive_cut : (text word after front mid rest : List ℕ) → text ≡ front ++ rest → after ≡ mid ++ rest → text ≡ 96 ∷ word → is_directive word ≡ true → IsLine word after → IsGap front mid
directive_cut text word after front mid rest e f k d l =
    let split : front ≡ 96 ∷ (l.line ++ mid) = cut text after front mid rest (96 ∷ l.line) e f (k ∙ ap (λ (s : List ℕ). 96 ∷ s) l.spelled) in
    let line : IsLine (l.line ++ mid) mid = record { line = l.line; spelled = refl; in_line = l.in_line; ends = ends_cut is_in_line after mid rest f l.ends } in
    directive {name = l.line ++ mid} split (directive_kept l.line after mid l.ends (ap is_directive (sym l.spelled) ∙ d)) line

pub gap_cut : (text after front mid rest : List ℕ) → IsGap text after → text ≡ front ++ rest → after ≡ mid ++ rest → IsGap front mid
gap_cut text after front mid rest (white {b} k h) e f = white {b = b} (cut text after front mid rest (b ∷ []) e f k) h
gap_cut text after front mid rest (line_comment h l) e f = line_cut text after front mid rest e f h l
gap_cut text after front mid rest (block_comment h u) e f = block_cut text after front mid rest e f h u
gap_cut text after front mid rest (attribute h u) e f = attribute_cut text after front mid rest e f h u
gap_cut text after front mid rest (directive {name = word} k d l) e f = directive_cut text word after front mid rest e f k d l

-- ---- strings

item_cut : {t u : List ℕ} {b : ℕ} → Item t b u → (v rest : List ℕ) → u ≡ v ++ rest → (w : List ℕ) × (t ≡ w ++ rest) × Item w b v
item_cut (plain_item {b} h) v rest e = (b ∷ v, ap (λ (s : List ℕ). b ∷ s) e, plain_item h)
item_cut (escape {c} {b} k h) v rest e = (c ∷ b ∷ v, ap (λ (s : List ℕ). c ∷ b ∷ s) e, escape k h)
item_cut (one_digit {c} {x} {rest = u} k ox ends) v rest e = (c ∷ x ∷ v, ap (λ (s : List ℕ). c ∷ x ∷ s) e, one_digit k ox (ends_cut is_octal u v rest e ends))
item_cut (two_digits {c} {x} {y} {rest = u} k ox oy ends) v rest e = (c ∷ x ∷ y ∷ v, ap (λ (s : List ℕ). c ∷ x ∷ y ∷ s) e, two_digits k ox oy (ends_cut is_octal u v rest e ends))
item_cut (three_digits {c} {x} {y} {z} k ox oy oz) v rest e = (c ∷ x ∷ y ∷ z ∷ v, ap (λ (s : List ℕ). c ∷ x ∷ y ∷ z ∷ s) e, three_digits k ox oy oz)

items_cut : {t u m : List ℕ} → Items t m u → (v rest : List ℕ) → u ≡ v ++ rest → (w : List ℕ) × (t ≡ w ++ rest) × Items w m v
items_cut no_more v rest e = (v, e, no_more)
items_cut (more i js) v rest e =
    let q = items_cut js v rest e in
    let p = item_cut i q.0 rest q.1 in
    (p.0, p.1, more p.2 q.2)

string_cut : (text bytes after front mid rest : List ℕ) → IsString text bytes after → text ≡ front ++ rest → after ≡ mid ++ rest → IsString front bytes mid
string_cut text bytes after front mid rest s e f =
    let q = items_cut s.2 (34 ∷ mid) rest (ap (λ (u : List ℕ). 34 ∷ u) f) in
    (q.0, append_cancel_right front (34 ∷ q.0) rest (sym e ∙ s.1 ∙ ap (λ (u : List ℕ). 34 ∷ u) q.1), q.2)

-- ---- numbers

plain_cut : (text digits after front mid rest : List ℕ) → Plain text digits after → text ≡ front ++ rest → after ≡ mid ++ rest → Plain front digits mid
plain_cut text digits after front mid rest k e f = record {
  spelled = cut text after front mid rest digits e f k.spelled;
  is_plain = k.is_plain;
  ends = ends_cut is_decimal after mid rest f k.ends;
  alone = λ space tail w h. k.alone space (tail ++ rest) w (f ∙ ap (λ (s : List ℕ). s ++ rest) h ∙ append_assoc space (39 ∷ tail) rest);
}

-- the bytes from the apostrophe's sign to the last digit
abbrev spelling : {text : List ℕ} {signed : Bool} {radix : ℕ} {digits rest : List ℕ} → Digits text signed radix digits rest → List ℕ
spelling k = k.sign ++ (k.letter ∷ (k.gap ++ (k.first ∷ k.more)))

spelling_then : (sign space others rest : List ℕ) (letter first : ℕ) → sign ++ (letter ∷ (space ++ (first ∷ (others ++ rest)))) ≡ (sign ++ (letter ∷ (space ++ (first ∷ others)))) ++ rest
spelling_then sign space others rest letter first = simp append_assoc refl

digits_cut : (text digits after mid rest : List ℕ) (signed : Bool) (radix : ℕ) → (k : Digits text signed radix digits after) → after ≡ mid ++ rest → Digits (spelling k ++ mid) signed radix digits mid
digits_cut text digits after mid rest signed radix k f = record {
  sign = k.sign;
  letter = k.letter;
  gap = k.gap;
  first = k.first;
  more = k.more;
  spelled = sym (spelling_then k.sign k.gap k.more mid k.letter k.first);
  digits_are = k.digits_are;
  is_sign = k.is_sign;
  is_base = k.is_base;
  is_gap = k.is_gap;
  is_first = k.is_first;
  are_digits = k.are_digits;
  ends = ends_cut (is_further_digit radix k.first) after mid rest f k.ends;
}

size_then : (size space word rest : List ℕ) → size ++ (space ++ (39 ∷ (word ++ rest))) ≡ (size ++ (space ++ (39 ∷ word))) ++ rest
size_then size space word rest = simp append_assoc refl

based_cut : (text size tail after front mid rest word : List ℕ) → Based text size tail → tail ≡ word ++ after → text ≡ front ++ rest → after ≡ mid ++ rest → Based front size (word ++ mid)
based_cut text size tail after front mid rest word b k e f = record {
  gap = b.gap;
  spelled = cut text after front mid rest (size ++ (b.gap ++ (39 ∷ word))) e f (b.spelled ∙ ap (λ (s : List ℕ). size ++ (b.gap ++ (39 ∷ s))) k ∙ size_then size b.gap word after) ∙ sym (size_then size b.gap word mid);
  is_size = b.is_size;
  is_space = b.is_space;
}

-- ---- marks

line_shut : (front rest : List ℕ) → opens_line (front ++ rest) ≡ false → opens_line front ≡ false
unfolding opens_line
line_shut [] rest h = refl
line_shut (a ∷ []) rest h = elim (47 == a) as (λ v. (v && false) ≡ false) [ true ↦ refl | false ↦ refl ]
line_shut (a ∷ b ∷ bs) rest h = h

block_shut : (front rest : List ℕ) → opens_block (front ++ rest) ≡ false → opens_block front ≡ false
unfolding opens_block
block_shut [] rest h = refl
block_shut (a ∷ []) rest h = elim (47 == a) as (λ v. (v && false) ≡ false) [ true ↦ refl | false ↦ refl ]
block_shut (a ∷ b ∷ bs) rest h = h

-- what white space is followed by is there after the cut too, or the cut text is white space alone
white_cases : (bs rest : List ℕ) → (begins 41 (past is_white (bs ++ rest)) ≡ begins 41 (past is_white bs)) ⊎ Are is_white bs
unfolding past
white_cases [] rest = inr refl
white_cases (b ∷ bs) rest = elim (cases_Bool (is_white b)) [
  | inl w ↦ elim (white_cases bs rest) [
    | inl same ↦ inl (rw w same)
    | inr all ↦ inr (and_from _ _ w all)
  ]
  | inr w ↦ inl (rw w refl)
]

-- In the text no comment or attribute begins here; cut, it is `(*` and white space.
pub record IsLeftOpen (text front : List ℕ) : Type 0 where
  pub space : List ℕ
  pub spelled : front ≡ 40 ∷ 42 ∷ space
  pub is_space : Are is_white space
  pub shut : opens text ≡ false

attribute_shut : (front rest : List ℕ) → opens (front ++ rest) ≡ false → opens_attribute (front ++ rest) ≡ false → (opens_attribute front ≡ false) ⊎ IsLeftOpen (front ++ rest) front
unfolding opens_attribute
attribute_shut [] rest o h = inl refl
attribute_shut (a ∷ []) rest o h = inl (elim (40 == a) as (λ v. ((v && false) && not (begins 41 (past is_white []))) ≡ false) [ true ↦ refl | false ↦ refl ])
attribute_shut (a ∷ b ∷ bs) rest o h = elim (cases_Bool (opens_attribute (a ∷ b ∷ bs))) [
  | inl opened ↦ elim (white_cases bs rest) [
    | inl same ↦ absurd (both_ways _ h (ap (λ (v : Bool). ((40 == a) && ((42 == b) && true)) && not v) same ∙ opened))
    | inr all ↦
        let two = and_parts (40 == a) ((42 == b) && true) (and_parts ((40 == a) && ((42 == b) && true)) (not (begins 41 (past is_white bs))) opened).0 in
        let paren : 40 ≡ a = eqb-true 40 a two.0 in
        let star : 42 ≡ b = eqb-true 42 b (and_parts (42 == b) true two.1).0 in
        inr (record { space = bs; spelled = cc; is_space = all; shut = o })
  ]
  | inr shut ↦ inl shut
]

shut_cut : (text front rest : List ℕ) → text ≡ front ++ rest → opens text ≡ false → (opens front ≡ false) ⊎ IsLeftOpen text front
unfolding opens
shut_cut text front rest e h =
    let whole : opens (front ++ rest) ≡ false = ap opens (sym e) ∙ h in
    let parts = or_parts (opens_line (front ++ rest)) (opens_block (front ++ rest) || opens_attribute (front ++ rest)) whole in
    let parts2 = or_parts (opens_block (front ++ rest)) (opens_attribute (front ++ rest)) parts.1 in
    elim (attribute_shut front rest whole parts2.1) [
      | inl a ↦ inl (or_from _ _ (line_shut front rest parts.0) (or_from _ _ (block_shut front rest parts2.0) a))
      | inr l ↦ inr (record { space = l.space; spelled = l.spelled; is_space = l.is_space; shut = h })
    ]

mark_cut : (text m after front mid rest : List ℕ) → IsMark text m after → text ≡ front ++ rest → after ≡ mid ++ rest → IsMark front m mid
mark_cut text m after front mid rest k e f = record {
  spelled = cut text after front mid rest m e f k.spelled;
  is_one = k.is_one;
  longest = λ other beyond h is. k.longest other (beyond ++ rest) (e ∙ ap (λ (s : List ℕ). s ++ rest) h ∙ append_assoc other beyond rest) is;
}

-- ---- tokens

-- A token stands in the cut text as before, or an attribute is now open there.
pub token_cut : {text after : List ℕ} {kind : TokenKind} → IsToken text kind after → (front mid rest : List ℕ) → text ≡ front ++ rest → after ≡ mid ++ rest → (IsToken front kind mid) ⊎ IsLeftOpen text front
token_cut {text} (keyword {word} {rest = after} k n ends r) front mid rest e f = inl (keyword {word = word} (cut text after front mid rest word e f k) n (ends_cut is_name_byte after mid rest f ends) r)
token_cut {text} (name {word} {rest = after} k n ends r) front mid rest e f = inl (name {word = word} (cut text after front mid rest word e f k) n (ends_cut is_name_byte after mid rest f ends) r)
token_cut {text} (escaped_name {word} {rest = after} k n ends) front mid rest e f = inl (escaped_name {word = word} (cut text after front mid rest (92 ∷ word) e f k) n (white_end_cut after mid rest f ends))
token_cut {text} (system_name {word} {rest = after} k n ends) front mid rest e f = inl (system_name {word = word} (cut text after front mid rest (36 ∷ word) e f k) n (ends_cut is_name_byte after mid rest f ends))
token_cut {text} (plain {digits} {rest = after} k h) front mid rest e f = inl (plain (plain_cut text digits after front mid rest k e f) h)
token_cut {text} (based {size} {tail} {digits} {rest = after} {signed} {radix} b k h) front mid rest e f =
    inl (based (based_cut text size tail after front mid rest (spelling k) b (k.spelled ∙ spelling_then k.sign k.gap k.more after k.letter k.first) e f) (digits_cut tail digits after mid rest signed radix k f) h)
token_cut {text} (string {bytes} {rest = after} s) front mid rest e f = inl (string (string_cut text bytes after front mid rest s e f))
token_cut {text} (mark {mark = m} {rest = after} k o) front mid rest e f = elim (shut_cut text front rest e o) [
  | inl shut ↦ inl (mark (mark_cut text m after front mid rest k e f) shut)
  | inr s ↦ inr s
]
