-- What the bytes of a report tell.
use Rattle.std.proofs.Common.{◌≡◌, ℕ, ◌+◌, List, [], ◌∷◌, map, refl, sym, ap, ap₂, ◌∙◌}
use Rattle.std.specs.List.{AllByRecursion}
use Rattle.fab_io.specs.Outside.{Files}
use Rattle.host_text.specs.declared.script.Free.{Free}
use Rattle.host_text.specs.declared.script.Script.{Script}
use Rattle.host_text.specs.declared.script.TenantLine.{TenantLine}
use Rattle.host_text.specs.declared.block.Reply.{Reply}
use Rattle.host_text.specs.declared.block.FreeLine.{FreeLine}
use Rattle.host_text.specs.Readable.{IsReply}
use Rattle.host_text.proofs.Replying.{replies-back}
use Rattle.host_form.specs.Origins.{Source, Tenant}
use Rattle.host_form.specs.Histories.{Histories}
use Rattle.host_form.specs.Orders.{Answered, order_words, free_line}
use Rattle.host_form.specs.Runs.{Outcome, Refused, Ran}
use Rattle.host_form.specs.Reports.{block_of, blocks_of, AreRead, AreOutcomes, IsReport}
use Rattle.host_form.specs.Laws.{name_of, IsTellable}

-- ---- tenants

same_name : (s : Script) (name : List ℕ) (x : Outcome) → name_of (block_of s name x) ≡ name
same_name s name (Refused place kind) = refl
same_name s name (Ran r) = refl

module _ (judged : List ℕ → Source → Type 0) (told : Files) (s : Script) (histories : Histories) (answers : List Answered) where
  names : (n : ℕ) (ls : List TenantLine) (ts : List Tenant) (xs : List Outcome) → AreRead judged told ls ts → AreOutcomes s histories answers n ts xs
      → map name_of (blocks_of s ts xs) ≡ map (λ t. t.name) ls
  names n [] [] xs h k = refl
  names n [] (t ∷ ts) xs h k = absurd h
  names n (l ∷ ls) [] xs h k = absurd h
  names n (l ∷ ls) (t ∷ ts) [] h k = absurd k
  names n (l ∷ ls) (t ∷ ts) (x ∷ xs) h k =
      ap₂ (λ y ys. y ∷ ys) (same_name s t.line.name x ∙ ap (λ (l : TenantLine). l.name) h.0.is) (names (n + 1) ls ts xs h.1 k.1)

pub names-in-order : (judged : List ℕ → Source → Type 0) (told : Files) (s : Script) (histories : Histories) (bytes : List ℕ) (r : IsReport judged told s histories bytes)
    → map name_of (blocks_of s r.tenants r.outcomes) ≡ map (λ t. t.name) s.tenants
names-in-order judged told s histories bytes r = names judged told s histories r.answers 0 s.tenants r.tenants r.outcomes r.read r.comes

-- ---- replies

words_of : (s : Script) (answers : List Answered) → map (λ f. f.words) (map (free_line s) answers) ≡ map (order_words s) (map (λ a. a.order) answers)
words_of s [] = refl
words_of s (a ∷ answers) = ap (λ ws. order_words s a.order ∷ ws) (words_of s answers)

small-numbers : (s : Script) (answers : List Answered) → AllByRecursion (λ a. IsReply a.reply) answers → AllByRecursion (λ f. IsReply f.reply) (map (free_line s) answers)
small-numbers s [] h = tt
small-numbers s (a ∷ answers) h = (h.0, small-numbers s answers h.1)

same_answer : (a b : Answered) → a.order ≡ b.order → a.reply ≡ b.reply → a ≡ b
same_answer a b o r = ap₂ (λ (o : Free) (r : Reply). record { order = o; reply = r }) o r

heads_same : {X : Type 0} {x y : X} {xs ys : List X} → x ∷ xs ≡ y ∷ ys → (x ≡ y) × (xs ≡ ys)
heads_same e = (cc, cc)

same_answers : (s : Script) (xs ys : List Answered) → map (λ a. a.order) xs ≡ map (λ a. a.order) ys → map (free_line s) xs ≡ map (free_line s) ys → xs ≡ ys
same_answers s [] [] o l = refl
same_answers s [] (y ∷ ys) o l = let z : ⊥ = cc in absurd z
same_answers s (x ∷ xs) [] o l = let z : ⊥ = cc in absurd z
same_answers s (x ∷ xs) (y ∷ ys) o l =
    let order = heads_same o in
    let line = heads_same l in
    ap₂ (λ z zs. z ∷ zs) (same_answer x y order.0 (ap (λ (f : FreeLine). f.reply) line.0)) (same_answers s xs ys order.1 line.1)

pub answers-told : (judged : List ℕ → Source → Type 0) (told : Files) (s : Script) (histories : Histories) (bytes : List ℕ)
    (a b : IsReport judged told s histories bytes) → IsTellable s a.tenants a.outcomes a.answers → IsTellable s b.tenants b.outcomes b.answers → a.answers ≡ b.answers
answers-told judged told s histories bytes a b h k =
    let orders = a.orders ∙ sym b.orders in
    let words = words_of s a.answers ∙ ap (λ os. map (order_words s) os) orders ∙ sym (words_of s b.answers) in
    let lines = replies-back (blocks_of s a.tenants a.outcomes) (blocks_of s b.tenants b.outcomes) (map (free_line s) a.answers) (map (free_line s) b.answers)
    h.blocks k.blocks words (small-numbers s a.answers h.replies) (small-numbers s b.answers k.replies) (sym a.is ∙ b.is) in
    same_answers s a.answers b.answers orders lines
