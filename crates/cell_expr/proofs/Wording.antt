-- Words of memories as expressions (IEEE 1364-2005, clause 5.2.2).
use Rattle.std.proofs.Common.{◌≡◌, ℕ, zero, suc, ◌+◌, ◌^◌, ◌%◌, ◌<◌, ◌≤◌, ℤ, Bool, true, false, List, [], ◌∷◌, length, refl, sym, ap, ◌∙◌, arith}
use Rattle.std.specs.Prelude.{pos, negsuc, ◌+ℤ◌, ◌-ℤ◌, int_le, int_lt, ◌&&◌, ◌⊎◌, if◌then◌else◌, slice_get, slice_index, replicate, Option, Some, None, option_map}
use Rattle.std.specs.Int.RustNames.{unsigned_abs}
use Rattle.std.proofs.lemmas.Int.{ints}
use Rattle.std.proofs.lemmas.List.{length-replicate}
use Rattle.std.proofs.lemmas.Option.{slice_get-map}
use mathlib.Core.Logic.{inl, inr}
use Rattle.vl_base.specs.Value.{reading, resized}
use Rattle.vl_design.specs.declared.design.Form.{Form}
use Rattle.vl_design.specs.Functions.{zeros}
use Rattle.vl_design.specs.Laws.{IsFine}
use Rattle.vl_design.specs.Sound.{IsMemory, IsMem, IsOf}
use Rattle.vl_design.specs.Syntax.{Exp, Word, Row}
use Rattle.vl_design.specs.Value.{Sample, value, words_of, word_at}
use Rattle.vl_design.specs.Width.{Names, Scope, form, signal_form}
use Rattle.vl_eval.proofs.Readable.{word-small}
use Rattle.cell_emit.specs.cell_form.specs.Data.{ListData, BankData}
use Rattle.cell_emit.specs.cell_form.specs.Values as cell
use Rattle.cell_emit.specs.Slots.{held, width_at, Gives}
use Rattle.cell_emit.specs.Counts.{resizes}
use Rattle.cell_emit.specs.Envs.{Env, entry, word_or, IsThere, Fits, Stands}
use Rattle.cell_expr.specs.Compiled.{Compiles}
use Rattle.cell_expr.specs.Words.{word_read, lowest_of, lowest_in}
use Rattle.cell_expr.proofs.Choosing.{halves}
use Rattle.cell_expr.proofs.Holding.{holds-wider, holds-node}
use Rattle.vl_base.proofs.Lists.{index_past as past}

-- a word by its number from the lowest address on
word-from : (ws : List ℕ) (r : Row) (z : ℤ) → length ws ≡ r.words → cell.word_at ws (z -ℤ r.lowest) ≡ slice_index ws (word_at (Some r) z)
word-from ws r z long = go (z -ℤ r.lowest) refl
  where
    over : r.words ≡ length ws → slice_index ws r.words ≡ 0
    over e = past ws r.words (omega (arith, e))

    go : (d : ℤ) → z -ℤ r.lowest ≡ d → cell.word_at ws d ≡ slice_index ws (if int_le r.lowest z && int_lt z (r.lowest +ℤ pos r.words) then unsigned_abs (z -ℤ r.lowest) else r.words)
    go (negsuc k) e =
        let no : (int_le r.lowest z && int_lt z (r.lowest +ℤ pos r.words)) ≡ false = grind (arith, ints) in
        rw no (sym (over (sym long)))
    go (pos k) e = at (halves k r.words)
      where
        at : (k < r.words) ⊎ (r.words ≤ k) → cell.word_at ws (pos k) ≡ slice_index ws (if int_le r.lowest z && int_lt z (r.lowest +ℤ pos r.words) then unsigned_abs (z -ℤ r.lowest) else r.words)
        at (inl h) =
            let yes : (int_le r.lowest z && int_lt z (r.lowest +ℤ pos r.words)) ≡ true = grind (arith, ints) in
            rw (yes, e) refl
        at (inr h) =
            let no : (int_le r.lowest z && int_lt z (r.lowest +ℤ pos r.words)) ≡ false = grind (arith, ints) in
            rw no (past ws k (omega (arith, h, long)) ∙ sym (over (sym long)))

-- the entry of a memory has its words
entry-word : (b : BankData) (o : Option ℕ) (ws : List ℕ) (y : ℤ) → ((j : ℕ) → slice_index ws j ≡ word_or b o j) → word_read b o y ≡ cell.word_at ws y
entry-word b None ws (pos k) h = sym (h k)
entry-word b None ws (negsuc k) h = refl
entry-word b (Some m) ws (pos k) h = sym (h k)
entry-word b (Some m) ws (negsuc k) h = refl

pub many-words : (rows : List Row) (m : ℕ) (r : Row) → slice_get rows m ≡ Some r → length (words_of (zeros rows) m) ≡ r.words
many-words rows m r e =
    let z : slice_get (zeros rows) m ≡ Some (replicate r.words 0) = slice_get-map (λ (q : Row). replicate q.words 0) rows m ∙ ap (option_map (λ (q : Row). replicate q.words 0)) e in
    rw z (length-replicate r.words 0)

row-word : (rows : List Row) (values : List (List ℕ)) (m : ℕ) (z : ℤ) → IsFine rows values → IsOf IsMem (slice_get rows m) → cell.word_at (words_of values m) (z -ℤ lowest_in rows m) ≡ slice_index (words_of values m) (word_at (slice_get rows m) z)
row-word rows values m z fine is = go (slice_get rows m) refl is
  where
    go : (o : Option Row) → slice_get rows m ≡ o → IsOf IsMem o → cell.word_at (words_of values m) (z -ℤ lowest_of o) ≡ slice_index (words_of values m) (word_at o z)
    go None e h = absurd h
    go (Some r) e h = word-from (words_of values m) r z (fine.shape.words m ∙ many-words rows m r e)

word-same : (names : Names) (b : BankData) (l : ListData) (at : Env) (x : Sample) (m : ℕ) (z : ℤ) → IsMemory names m → Stands names b l at x →
    word_read b (entry at m) (z -ℤ lowest_in names.rows m) % 2 ^ (signal_form names.rows m).width ≡ slice_index (words_of x.values m) (word_at (slice_get names.rows m) z)
word-same names b l at x m z is st =
    ap (λ v. v % 2 ^ (signal_form names.rows m).width) (entry-word b (entry at m) (words_of x.values m) (z -ℤ lowest_in names.rows m) (λ j. st.words m j is) ∙ row-word names.rows x.values m z st.fine is)
    ∙ word-small names.rows x.values m (word_at (slice_get names.rows m) z) st.fine

pub word-compiles : (scope : Scope) (c : Form) (at : Env) (n k m : ℕ) (e : Exp) (signed : Bool) (old mid new : ListData) (a r : ℕ) → signed ≡ (form scope.names e).signed → IsMemory scope.names m → Fits scope.names old at → n + (1 + resizes (signal_form scope.names.rows m).width c.width) ≤ k →
    Compiles scope.names scope n e (form scope.names e) at old mid a →
    Gives (λ s. IsThere s (entry at m)) (1 + resizes (signal_form scope.names.rows m).width c.width) mid new r c.width (λ b. resized c.signed (signal_form scope.names.rows m).width c.width
    (word_read b (entry at m) (reading signed (width_at mid a) (held b mid a) -ℤ lowest_in scope.names.rows m) % 2 ^ (signal_form scope.names.rows m).width)) →
    Compiles scope.names scope k (Word m e) c at old new r
word-compiles scope c at n k m e signed old mid new a r sign is fits le h g =
    let names = scope.names in
    let f = form names e in
    let own = (signal_form names.rows m).width in
    let z : Sample → ℤ = λ x. reading f.signed f.width (value scope x e f) in
    let more = 1 + resizes own c.width in
    holds-wider names at (n + more) k old new r c.width (λ x. value scope x (Word m e) c) le
    (holds-node names at (λ s. IsThere s (entry at m)) n more old mid new r c.width _ (λ x. value scope x (Word m e) c) (λ s t. t m is) fits h.longer g
    (λ s t b x sound behind st later.
    let index : reading signed (width_at mid a) (held b mid a) ≡ z x = ap (λ q. reading q (width_at mid a) (held b mid a)) sign ∙ ap (λ w. reading f.signed w (held b mid a)) h.slot.width ∙ ap (reading f.signed f.width) (h.value s b x sound st) in
    ap (λ i. resized c.signed own c.width (word_read b (entry at m) (i -ℤ lowest_in names.rows m) % 2 ^ own)) index
    ∙ ap (resized c.signed own c.width) (word-same names b mid at x m (z x) is later)))
