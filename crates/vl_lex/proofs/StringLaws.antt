-- Strings: the reading and the relation are one.
use Rattle.std.proofs.Common.{◌≡◌, ℕ, zero, suc, ◌+◌, ◌-◌, ◌*◌, ◌%◌, ◌<◌, ◌≤◌, true, false, cond, ◌==◌, ◌||◌, List, [], ◌∷◌, ◌++◌, length, Option, Some, None, refl, sym, ap, subst, ◌∙◌, arith, inl, inr}
use Rattle.std.proofs.lemmas.List.{append_assoc}
use Rattle.std.proofs.lemmas.Bool.{cond_both, or_parts, or_from, not-true, not_from_false, eq-eqb, eqb-true}
use Rattle.vl_tree.specs.Bytes.{is_octal, Ends}
use Rattle.vl_tree.specs.Strings.{is_plain, is_escape, escape_of, Item, plain, escape, one_digit, two_digits, three_digits, Items, no_more, more, IsString}
use Rattle.vl_tree.specs.Gaps.{opens_block, opens_attribute}
use Rattle.vl_tree.specs.Faults.{IsCause}
use Rattle.vl_tree.specs.declared.token.TokenKind.TheVariants as t
use Rattle.vl_tree.specs.Tokens.{string}
use Rattle.vl_lex.specs.Reading.{item_at, escape_at, further_octal, last_octal, items_at, closed, string_at, next, found, stuck}
use Rattle.vl_lex.proofs.RunLaws.{chosen, some_is, none_is_not}
use Rattle.vl_lex.proofs.NextLaws.{passed_by, Says, first_quote}

last_sound : (c x y : ℕ) (s : List ℕ) (p : ℕ × List ℕ) → c ≡ 92 → is_octal x ≡ true → is_octal y ≡ true → last_octal ((x - 48) * 8 + (y - 48)) s ≡ p → Item (c ∷ x ∷ y ∷ s) p.0 p.1
last_sound c x y [] p e ox oy h = subst (λ (p : ℕ × List ℕ). Item (c ∷ x ∷ y ∷ []) p.0 p.1) h (two_digits e ox oy tt)
last_sound c x y (z ∷ s) p e ox oy h =
    elim (chosen (is_octal z) ((((x - 48) * 8 + (y - 48)) * 8 + (z - 48)) % 256, s) ((x - 48) * 8 + (y - 48), z ∷ s) p h) [
      | inl a ↦ subst (λ (p : ℕ × List ℕ). Item (c ∷ x ∷ y ∷ z ∷ s) p.0 p.1) a.1 (three_digits e ox oy a.0)
      | inr a ↦ subst (λ (p : ℕ × List ℕ). Item (c ∷ x ∷ y ∷ z ∷ s) p.0 p.1) a.1 (two_digits e ox oy a.0)
    ]

further_sound : (c x : ℕ) (s : List ℕ) (p : ℕ × List ℕ) → c ≡ 92 → is_octal x ≡ true → further_octal (x - 48) s ≡ p → Item (c ∷ x ∷ s) p.0 p.1
further_sound c x [] p e ox h = subst (λ (p : ℕ × List ℕ). Item (c ∷ x ∷ []) p.0 p.1) h (one_digit e ox tt)
further_sound c x (y ∷ s) p e ox h =
    elim (chosen (is_octal y) (last_octal ((x - 48) * 8 + (y - 48)) s) (x - 48, y ∷ s) p h) [
      | inl a ↦ last_sound c x y s p e ox a.0 a.1
      | inr a ↦ subst (λ (p : ℕ × List ℕ). Item (c ∷ x ∷ y ∷ s) p.0 p.1) a.1 (one_digit e ox a.0)
    ]

escape_sound : (c : ℕ) (s : List ℕ) (p : ℕ × List ℕ) → c ≡ 92 → escape_at s ≡ Some p → Item (c ∷ s) p.0 p.1
unfolding escape_at is_escape
escape_sound c [] p e h = none_is_not p h
escape_sound c (b ∷ s) p e h =
    elim (chosen (is_octal b) (Some (further_octal (b - 48) s)) (cond (b == 10) None (Some (escape_of b, s))) (Some p) h) [
      | inl a ↦ further_sound c b s p e a.0 (some_is _ _ a.1)
      | inr a ↦ elim (chosen (b == 10) None (Some (escape_of b, s)) (Some p) a.1) [
        | inl k ↦ none_is_not p k.1
        | inr k ↦ subst (λ (p : ℕ × List ℕ). Item (c ∷ b ∷ s) p.0 p.1) (some_is _ _ k.1) (escape e (not_from_false _ (or_from _ _ a.0 k.0)))
      ]
    ]

pub item_sound : (t : List ℕ) (p : ℕ × List ℕ) → item_at t ≡ Some p → Item t p.0 p.1
unfolding item_at
item_sound [] p h = none_is_not p h
item_sound (c ∷ s) p h =
    elim (chosen (c == 92) (escape_at s) (cond (is_plain c) (Some (c, s)) None) (Some p) h) [
      | inl a ↦ escape_sound c s p (eqb-true c 92 a.0) a.1
      | inr a ↦ elim (chosen (is_plain c) (Some (c, s)) None (Some p) a.1) [
        | inl k ↦ subst (λ (p : ℕ × List ℕ). Item (c ∷ s) p.0 p.1) (some_is _ _ k.1) (plain k.0)
        | inr k ↦ none_is_not p k.1
      ]
    ]

plain_is_no_backslash : (b : ℕ) → is_plain b ≡ true → (b == 92) ≡ false
unfolding is_plain
plain_is_no_backslash b h = (or_parts (b == 92) (b == 10) (or_parts (b == 34) ((b == 92) || (b == 10)) (not-true _ h)).1).0

escape_tests : (b : ℕ) → is_escape b ≡ true → (is_octal b ≡ false) × ((b == 10) ≡ false)
unfolding is_escape
escape_tests b h = or_parts (is_octal b) (b == 10) (not-true _ h)

last_ends : (v : ℕ) (rest : List ℕ) → Ends is_octal rest → last_octal v rest ≡ (v, rest)
last_ends v [] h = refl
last_ends v (b ∷ rest) h = rw h refl

further_ends : (v : ℕ) (rest : List ℕ) → Ends is_octal rest → further_octal v rest ≡ (v, rest)
further_ends v [] h = refl
further_ends v (b ∷ rest) h = rw h refl

pub item_complete : {t u : List ℕ} {b : ℕ} → Item t b u → item_at t ≡ Some (b, u)
unfolding item_at escape_at
item_complete (plain {b} {rest} h) = rw (plain_is_no_backslash b h, h) refl
item_complete (escape {c} {b} {rest} e h) = rw (eq-eqb c 92 e, (escape_tests b h).0, (escape_tests b h).1) refl
item_complete (one_digit {c} {x} {rest} e ox ends) = rw (eq-eqb c 92 e, ox) (ap (λ p. Some p) (further_ends (x - 48) rest ends))
item_complete (two_digits {c} {x} {y} {rest} e ox oy ends) = rw (eq-eqb c 92 e, ox, oy) (ap (λ p. Some p) (last_ends ((x - 48) * 8 + (y - 48)) rest ends))
item_complete (three_digits {c} {x} {y} {z} {rest} e ox oy oz) = rw (eq-eqb c 92 e, ox, oy, oz) refl

pub item_shorter : {t u : List ℕ} {b : ℕ} → Item t b u → length u < length t
item_shorter (plain h) = omega arith
item_shorter (escape e h) = omega arith
item_shorter (one_digit e ox ends) = omega arith
item_shorter (two_digits e ox oy ends) = omega arith
item_shorter (three_digits e ox oy oz) = omega arith

pub items_push : {t u v m : List ℕ} {b : ℕ} → Items t m u → Item u b v → Items t (m ++ (b ∷ [])) v
items_push no_more i = more i no_more
items_push (more j js) i = more j (items_push js i)

turn : (n : ℕ) (t : List ℕ) (b : ℕ) (u m v : List ℕ) → item_at t ≡ Some (b, u) → items_at n u ≡ (m, v) → items_at (suc n) t ≡ (b ∷ m, v)
unfolding items_at
turn n t b u m v h k = subst (λ (o : Option (ℕ × List ℕ)). elim o as (λ _. List ℕ × List ℕ) [ None ↦ ([], t) | Some x ↦ (x.0 ∷ (items_at n x.1).0, (items_at n x.1).1) ] ≡ (b ∷ m, v)) (sym h) (ap (λ (p : List ℕ × List ℕ). (b ∷ p.0, p.1)) k)

last : (n : ℕ) (t : List ℕ) → item_at t ≡ None → items_at (suc n) t ≡ ([], t)
unfolding items_at
last n t h = subst (λ (o : Option (ℕ × List ℕ)). elim o as (λ _. List ℕ × List ℕ) [ None ↦ ([], t) | Some x ↦ (x.0 ∷ (items_at n x.1).0, (items_at n x.1).1) ] ≡ ([], t)) (sym h) refl

pub items_complete : (n : ℕ) {t u m : List ℕ} → Items t m u → length t ≤ n → item_at u ≡ None → items_at n t ≡ (m, u)
unfolding items_at
items_complete zero no_more h e = refl
items_complete (suc n) (no_more {text}) h e = last n text e
items_complete zero (more i js) h e = absurd (omega (arith, item_shorter i))
items_complete (suc n) (more {b} {bs} {text} {after} {rest} i js) h e =
    turn n text b after bs rest (item_complete i) (items_complete n js (omega (arith, item_shorter i)) e)

-- ---- whole strings

item_passed : {t u : List ℕ} {b : ℕ} → Item t b u → (front : List ℕ) × (t ≡ front ++ u)
item_passed (plain {b} h) = (b ∷ [], refl)
item_passed (escape {c} {b} e h) = (c ∷ b ∷ [], refl)
item_passed (one_digit {c} {x} e ox ends) = (c ∷ x ∷ [], refl)
item_passed (two_digits {c} {x} {y} e ox oy ends) = (c ∷ x ∷ y ∷ [], refl)
item_passed (three_digits {c} {x} {y} {z} e ox oy oz) = (c ∷ x ∷ y ∷ z ∷ [], refl)

items_passed : {t u m : List ℕ} → Items t m u → (front : List ℕ) × (t ≡ front ++ u)
items_passed no_more = ([], refl)
items_passed (more {rest = u} i js) =
    let p = item_passed i in
    let q = items_passed js in
    (p.0 ++ q.0, p.1 ∙ ap (λ (s : List ℕ). p.0 ++ s) q.1 ∙ sym (append_assoc p.0 q.0 u))

items_sound : (n : ℕ) (t : List ℕ) → Items t (items_at n t).0 (items_at n t).1
unfolding items_at
items_sound zero t = no_more
items_sound (suc n) t = from_item n t (item_at t) refl (items_sound n)
  where
    from_item : (n : ℕ) (t : List ℕ) (o : Option (ℕ × List ℕ)) → item_at t ≡ o → ((u : List ℕ) → Items u (items_at n u).0 (items_at n u).1)
        → let r : List ℕ × List ℕ = elim o as (λ _. List ℕ × List ℕ) [ None ↦ ([], t) | Some x ↦ (x.0 ∷ (items_at n x.1).0, (items_at n x.1).1) ] in Items t r.0 r.1
    from_item n t None e ih = no_more
    from_item n t (Some x) e ih = more (item_sound t x e) (ih x.1)

string_stuck : (bs : List ℕ) → IsCause (34 ∷ bs) 3
unfolding opens_block opens_attribute
string_stuck bs = refl

closed_says : (inside bytes rest : List ℕ) → Items inside bytes rest → Says (34 ∷ inside) (closed bytes rest)
closed_says inside bytes [] k = string_stuck inside
closed_says inside bytes (b ∷ rest) k =
    cond_both (b == 34) (found (t.Str bytes) rest) (stuck 3) (λ n. Says (34 ∷ inside) n)
    (λ e.
    let k34 : Items inside bytes (34 ∷ rest) = subst (λ (c : ℕ). Items inside bytes (c ∷ rest)) (eqb-true b 34 e) k in
    let p = items_passed k34 in
    (passed_by 34 (p.0 ++ (34 ∷ [])) rest (34 ∷ inside) (ap (λ (s : List ℕ). 34 ∷ s) (p.1 ∙ sym (append_assoc p.0 (34 ∷ []) rest))), string (inside, refl, k34)))
    (λ _. string_stuck inside)

pub string_says : (b : ℕ) (bs : List ℕ) → b ≡ 34 → Says (b ∷ bs) (string_at bs)
unfolding string_at
string_says b bs e = subst (λ (c : ℕ). Says (c ∷ bs) (closed (items_at (length bs) bs).0 (items_at (length bs) bs).1)) (sym e) (closed_says bs _ _ (items_sound (length bs) bs))

no_item : (rest : List ℕ) → item_at (34 ∷ rest) ≡ None
unfolding item_at is_plain
no_item rest = refl

closed_34 : (bytes rest : List ℕ) → closed bytes (34 ∷ rest) ≡ found (t.Str bytes) rest
closed_34 bytes rest = refl

pub string_read : (text bytes rest : List ℕ) → IsString text bytes rest → next text ≡ found (t.Str bytes) rest
unfolding next string_at
string_read text bytes rest s =
    let whole = items_complete (length s.0) s.2 (omega arith) (no_item rest) in
    ap next s.1 ∙ rw first_quote (ap (λ (p : List ℕ × List ℕ). closed p.0 p.1) whole ∙ closed_34 bytes rest)
