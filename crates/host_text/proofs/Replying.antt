-- The replies to orders are read from their lines.
use Rattle.std.proofs.Common.{◌≡◌, ℕ, ◌<◌, ◌^◌, List, [], ◌∷◌, ◌++◌, map, codes, refl, sym, ap, ap₂, ◌∙◌, append_assoc, arith, lit<}
use Rattle.std.specs.List.{AllByRecursion, flat_map}
use Rattle.std.specs.Fmt.{decimal}
use Rattle.std.proofs.lemmas.List.{append_cancel_left}
use Rattle.host_text.specs.declared.block.Block.{Block}
use Rattle.host_text.specs.declared.block.Reply.{Reply}
use Rattle.host_text.specs.declared.block.Reply.TheVariants.{At, Ended, Small, Refused}
use Rattle.host_text.specs.declared.block.FreeLine.{FreeLine}
use Rattle.host_text.specs.Report.{word, reply, block, free_line, report}
use Rattle.host_text.specs.Readable.{IsReadable, IsReply}
use Rattle.host_text.proofs.Cutting.{Lacks, decimal_lacks_letters, heads, tail, tails, cut_numbers}
use Rattle.host_text.proofs.Reading.{newline_before_digits, blocks-back}
use Rattle.ten_plan.specs.vl_base.proofs.Lists.{append_assoc_four as assoc_three}

-- ---- replies

-- a number in a line doesn't begin with a letter
no_letter : (d : ℕ) (ds r xs : List ℕ) → 57 < d → Lacks d ds → ds ++ (10 ∷ r) ≡ d ∷ xs → ⊥
no_letter d [] r xs high h e = let l = heads 10 d r xs e in omega (arith, l, high)
no_letter d (x ∷ ds) r xs high h e = h.0 (heads x d (ds ++ (10 ∷ r)) xs e)

not_number : (d n : ℕ) (r xs : List ℕ) → 57 < d → n < 2 ^ 64 → 32 ∷ (decimal n ++ (10 ∷ r)) ≡ 32 ∷ (d ∷ xs) → ⊥
not_number d n r xs high small e = no_letter d (decimal n) r xs high (decimal_lacks_letters d high n small) (tail e)

differ : {A : Type 0} (x m n : ℕ) (xs ys : List ℕ) → m < n → x ∷ (m ∷ xs) ≡ x ∷ (n ∷ ys) → A
differ x m n xs ys l e = let same = heads m n xs ys (tails x x (m ∷ xs) (n ∷ ys) e) in absurd (omega (arith, l, same))

number-back : (m n : ℕ) (r q : List ℕ) → m < 2 ^ 64 → n < 2 ^ 64 → decimal m ++ (10 ∷ r) ≡ decimal n ++ (10 ∷ q) → (m ≡ n) × (r ≡ q)
number-back m n r q s t e = cut_numbers 10 newline_before_digits m n r q s t e

reply-back : (x y : Reply) (r q : List ℕ) → IsReply x → IsReply y → reply x ++ (10 ∷ r) ≡ reply y ++ (10 ∷ q) → (x ≡ y) × (r ≡ q)
reply-back (At m) (At n) r q h k e = let both = number-back m n r q h k (tail e) in (ap (λ i. At i) both.0, both.1)
reply-back (Ended m) (Ended n) r q h k e =
    let both = number-back m n r q h k (append_cancel_left (codes " ended ") _ _ e) in
    (ap (λ i. Ended i) both.0, both.1)
reply-back Small Small r q h k e = (refl, tail (append_cancel_left (codes " small") _ _ e))
reply-back Refused Refused r q h k e = (refl, tail (append_cancel_left (codes " refused") _ _ e))
reply-back (At m) (Ended n) r q h k e = absurd (not_number 101 m r _ (lit< tt) h e)
reply-back (At m) Small r q h k e = absurd (not_number 115 m r _ (lit< tt) h e)
reply-back (At m) Refused r q h k e = absurd (not_number 114 m r _ (lit< tt) h e)
reply-back (Ended m) (At n) r q h k e = absurd (not_number 101 n q _ (lit< tt) k (sym e))
reply-back Small (At n) r q h k e = absurd (not_number 115 n q _ (lit< tt) k (sym e))
reply-back Refused (At n) r q h k e = absurd (not_number 114 n q _ (lit< tt) k (sym e))
reply-back (Ended m) Small r q h k e = differ 32 101 115 _ _ (lit< tt) e
reply-back (Ended m) Refused r q h k e = differ 32 101 114 _ _ (lit< tt) e
reply-back Small (Ended n) r q h k e = differ 32 101 115 _ _ (lit< tt) (sym e)
reply-back Refused (Ended n) r q h k e = differ 32 101 114 _ _ (lit< tt) (sym e)
reply-back Small Refused r q h k e = differ 32 114 115 _ _ (lit< tt) (sym e)
reply-back Refused Small r q h k e = differ 32 114 115 _ _ (lit< tt) e

-- ---- lines

line-nested : (f : FreeLine) (more : List ℕ) → free_line f ++ more ≡ codes "free" ++ (flat_map word f.words ++ (reply f.reply ++ (10 ∷ more)))
line-nested f more = assoc_three (codes "free") (flat_map word f.words) (reply f.reply) (codes "\n") more

same_line : (f g : FreeLine) → f.words ≡ g.words → f.reply ≡ g.reply → f ≡ g
same_line f g w r = λ i. record { words = w i; reply = r i }

line-back : (f g : FreeLine) (r q : List ℕ) → f.words ≡ g.words → IsReply f.reply → IsReply g.reply → free_line f ++ r ≡ free_line g ++ q → (f ≡ g) × (r ≡ q)
line-back f g r q w h k e =
    let nested = sym (line-nested f r) ∙ e ∙ line-nested g q in
    let named = append_cancel_left (codes "free") _ _ nested in
    let here : flat_map word f.words ++ (reply f.reply ++ (10 ∷ r)) ≡ flat_map word f.words ++ (reply g.reply ++ (10 ∷ q)) =
    named ∙ ap (λ ws. flat_map word ws ++ (reply g.reply ++ (10 ∷ q))) (sym w) in
    let both = reply-back f.reply g.reply r q h k (append_cancel_left (flat_map word f.words) _ _ here) in
    (same_line f g w both.0, both.1)

first_words : (f g : FreeLine) (fs gs : List FreeLine) → map (λ f. f.words) (f ∷ fs) ≡ map (λ f. f.words) (g ∷ gs) → (f.words ≡ g.words) × (map (λ f. f.words) fs ≡ map (λ f. f.words) gs)
first_words f g fs gs e = (cc, cc)

lines-back : (fs gs : List FreeLine) → map (λ f. f.words) fs ≡ map (λ f. f.words) gs → AllByRecursion (λ f. IsReply f.reply) fs → AllByRecursion (λ f. IsReply f.reply) gs
    → flat_map free_line fs ≡ flat_map free_line gs → fs ≡ gs
lines-back [] [] w h k e = refl
lines-back [] (g ∷ gs) w h k e = let z : ⊥ = cc in absurd z
lines-back (f ∷ fs) [] w h k e = let z : ⊥ = cc in absurd z
lines-back (f ∷ fs) (g ∷ gs) w h k e =
    let words = first_words f g fs gs w in
    let first = line-back f g (flat_map free_line fs) (flat_map free_line gs) words.0 h.0 k.0 e in
    ap₂ (λ x xs. x ∷ xs) first.0 (lines-back fs gs words.1 h.1 k.1 first.1)

pub replies-back : (bs cs : List Block) (fs gs : List FreeLine) → AllByRecursion IsReadable bs → AllByRecursion IsReadable cs
    → map (λ f. f.words) fs ≡ map (λ f. f.words) gs → AllByRecursion (λ f. IsReply f.reply) fs → AllByRecursion (λ f. IsReply f.reply) gs
    → report bs fs ≡ report cs gs → fs ≡ gs
replies-back bs cs fs gs h k w x y e =
    let blocks : bs ≡ cs = blocks-back bs cs fs gs h k e in
    let same : report bs fs ≡ report bs gs = e ∙ ap (λ zs. report zs gs) (sym blocks) in
    lines-back fs gs w x y (append_cancel_left (flat_map block bs) _ _ same)
