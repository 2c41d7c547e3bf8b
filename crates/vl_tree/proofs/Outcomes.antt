-- The reading of a source by the words of the grammar: each outcome comes exactly where it holds.
use Rattle.std.proofs.Common.{◌≡◌, ℕ, zero, suc, ◌+◌, ◌-◌, ◌<◌, ◌≤◌, ◌⊎◌, inl, inr, Bool, true, false, length, take, drop, List, [], ◌∷◌, ◌++◌, Ok, Err, refl, sym, ap, subst, arith, ◌∙◌, append_assoc, length-append, length-take}
use Rattle.std.proofs.Math.Dec.{ltb}
use Rattle.std.proofs.lemmas.Bool.{ltb-true, ltb-false}
use Rattle.std.proofs.lemmas.List.{take-append-drop, take-append-le}
use Rattle.std.proofs.Math.Seq.{drop-append_seam, take-append-add}
use Rattle.vl_tree.specs.declared.token.Token.{Token}
use Rattle.vl_tree.proofs.Follows.{next}
use Rattle.vl_tree.specs.declared.source_tree.Source.{Source}
use Rattle.vl_tree.specs.declared.source_fault.Cause.{Cause}
use Rattle.vl_tree.specs.declared.source_fault.Cause.TheVariants as c
use Rattle.vl_tree.specs.Bounds.{Bounds, unbounded}
use Rattle.vl_tree.specs.GrammarOfSource.{ReadsSource}
use Rattle.vl_tree.specs.FaultsOfSource.{IsSource, BeginsSource, limits, no_limit, statement_limit, expression_limit, IsSyntaxFault, IsPassing}
use Rattle.vl_tree.specs.Parsers.{Outcome}
use Rattle.vl_tree.specs.Parsing.{source}
use Rattle.vl_tree.proofs.FollowsOfSource.{IsLimit, Lacks, bounds, Spare, spare_behind, ok_parts}
use Rattle.vl_tree.proofs.Completing.{Excused, ExcusedAt}
use Rattle.vl_tree.proofs.SourceLaws.{took, took_all, complete, Halts, halts}

-- ---- excuses that can't be

-- both limits count all of these tokens but the last u
counted : (u : ℕ) (cause : Cause) (us : List Token) → u < length us → ExcusedAt true true u cause us → ⊥
counted u c.Syntax us h e = e
counted u c.Statements us h (inl e) = cc
counted u c.Statements us h (inr e) = omega (arith, h, e.1)
counted u c.Tokens us h (inl e) = cc
counted u c.Tokens us h (inr e) = omega (arith, h, e.1)

all_counted : (cause : Cause) (us : List Token) → ExcusedAt true true 0 cause us → ⊥
all_counted c.Syntax us e = e
all_counted c.Statements us (inl e) = cc
all_counted c.Statements us (inr e) = omega (arith, e.0, e.1)
all_counted c.Tokens us (inl e) = cc
all_counted c.Tokens us (inr e) = omega (arith, e.0, e.1)

never_excused : (o : Outcome Source) → Excused true true 0 o → ⊥
never_excused (Ok x) e = e
never_excused (Err x) e = all_counted x.0 x.1 e

-- ---- lists

-- tokens that go on from a longer front
along_front : (ts front rest more : List Token) (k : ℕ) → ts ≡ front ++ rest → k ≤ length front → take k ts ++ (drop k front ++ more) ≡ front ++ more
along_front ts front rest more k e h =
    ap (λ z. take k z ++ (drop k front ++ more)) e ∙ (ap (λ z. z ++ (drop k front ++ more)) (take-append-le k front rest h) ∙ (sym (append_assoc (take k front) (drop k front) more) ∙ ap (λ z. z ++ more) (take-append-drop k front)))

-- tokens that go on from a shorter front
behind_front : (ts front rest more : List Token) (k : ℕ) → ts ≡ front ++ rest → take (length front + k) ts ++ more ≡ front ++ (take k rest ++ more)
behind_front ts front rest more k e = ap (λ z. take (length front + k) z ++ more) e ∙ (ap (λ z. z ++ more) (take-append-add front rest k) ∙ append_assoc front (take k rest) more)

next_taken : (us more : List Token) (k : ℕ) → 0 < k → k ≤ length us → next us ≡ next (take k us ++ more)
next_taken us more zero h l = absurd (omega (arith, h))
next_taken [] more (suc k) h l = absurd (omega (arith, l))
next_taken (v ∷ us) more (suc k) h l = refl

module _ (n : ℕ) (ts : List Token) (room : length ts + 1 < n) where
  -- ---- what is read

  pub read_within : (a : Source) → source n ts ≡ Ok (a, []) → ReadsSource (limits 0) a ts []
  read_within a e = took n ts a e true true 0

  pub read_source : (a : Source) → source n ts ≡ Ok (a, []) → IsSource a ts
  read_source a e = took n ts a e false false 0

  pub read_only : (a : Source) → source n ts ≡ Ok (a, []) → (other : Source) → IsSource other ts → other ≡ a
  read_only a e other d = elim (complete n false false 0 other ts d room) [
    | inl g ↦ ap (λ x. x.0) (ok_parts (sym g ∙ e))
    | inr g ↦ (let z : ⊥ = subst (λ o. Excused false false 0 o) e g in absurd z)
  ]

  -- a source within the limits is read
  pub accepts : (a : Source) → ReadsSource (limits 0) a ts [] → source n ts ≡ Ok (a, [])
  accepts a d = elim (complete n true true 0 a ts d room) [
    | inl g ↦ g
    | inr g ↦ absurd (never_excused (source n ts) g)
  ]

  -- ---- faults

  whole_read : (a : Source) (rest : List Token) → source n ts ≡ Ok (a, rest) → (s t : Bool) (u : ℕ) → ReadsSource (bounds s t u) a ts []
  whole_read a rest e s t u = took n ts a (e ∙ ap (λ z. Ok (a, z)) (took_all n ts a rest e)) s t u

  -- what is read goes on from each front
  goes_on : (a : Source) (rest : List Token) → source n ts ≡ Ok (a, rest) → (i : ℕ) (s t : Bool) (u : ℕ) → ReadsSource (bounds s t u) a (take i ts ++ drop i ts) []
  goes_on a rest e i s t u = subst (λ z. ReadsSource (bounds s t u) a z []) (sym (take-append-drop i ts)) (whole_read a rest e s t u)

  module _ (cause : Cause) (rest : List Token) (k : Halts ts cause rest) (i : ℕ) where
    sizes : length ts ≡ length k.front + length rest
    sizes = omega (arith, ap length k.split, length-append k.front rest)

    -- it halts no earlier than where the tokens begin a source
    no_earlier : BeginsSource limits (take i ts) → i ≤ length ts → length k.front < i → ⊥
    no_earlier (more, a, d) l h =
        let j : ℕ = i - length k.front in
        let e : length k.front + j ≡ i = omega (arith, h) in
        let w : take i ts ++ more ≡ k.front ++ (take j rest ++ more) = ap (λ z. take z ts ++ more) (sym e) ∙ behind_front ts k.front rest more j k.split in
        counted (length more) cause (take j rest ++ more) (omega (arith, sizes, h, l, length-append (take j rest) more, length-take j rest))
        (k.excuse true true (length more) a (take j rest ++ more) (next_taken rest more j (omega (arith, h)) (omega (arith, sizes, h, l))) (subst (λ z. ReadsSource (limits (length more)) a z []) w d))

    -- where it halts later, the tokens begin a source within any bounds
    later : (s t : Bool) → i < length k.front → (more : List Token) × (a : Source) × ((u : ℕ) → Spare s t u more → ReadsSource (bounds s t u) a (take (i + 1) ts ++ more) [])
    later s t h = let r = k.reaches in (drop (i + 1) k.front ++ r.0, r.1, λ u z. subst (λ y. ReadsSource (bounds s t u) r.1 y []) (sym (along_front ts k.front rest r.0 (i + 1) k.split (omega (arith, h)))) (r.2 s t u (spare s t u r.0 z)))
      where
        spare : (s t : Bool) (u : ℕ) (more : List Token) → Spare s t u (drop (i + 1) k.front ++ more) → Spare s t u more
        spare s t u more z = spare_behind s t u (drop (i + 1) k.front) more z

    -- where a limit is passed there, they do so without it
    there : (s t : Bool) → length k.front ≡ i → IsLimit cause → Lacks cause s t → (more : List Token) × (a : Source) × ((u : ℕ) → Spare s t u more → ReadsSource (bounds s t u) a (take (i + 1) ts ++ more) [])
    there s t h l g = let r = k.passes l in
        let w : take (i + 1) ts ≡ k.front ++ r.0 ∷ [] = ap (λ z. take z ts) (ap (λ z. z + 1) (sym h)) ∙ (ap (take (length k.front + 1)) (k.split ∙ ap (λ z. k.front ++ z) r.2) ∙ take-append-add k.front (r.0 ∷ r.1) 1) in
        (r.3, r.4, λ u z. subst (λ y. ReadsSource (bounds s t u) r.4 y []) (sym (ap (λ z. z ++ r.3) w ∙ append_assoc k.front (r.0 ∷ []) r.3)) (r.5 s t u g z))

    left_there : length k.front ≡ i → rest ≡ drop i ts
    left_there h = sym (ap (drop i) k.split ∙ (ap (λ z. drop z (k.front ++ rest)) (sym h) ∙ drop-append_seam k.front rest))

    -- where they begin a source with the token there, that is a limit
    is_limit : length k.front ≡ i → i < length ts → BeginsSource no_limit (take (i + 1) ts) → c.Syntax ≡ cause → ⊥
    is_limit h l (more, a, d) e =
        let w : take (i + 1) ts ++ more ≡ k.front ++ (take 1 rest ++ more) = ap (λ z. take z ts ++ more) (ap (λ z. z + 1) (sym h)) ∙ behind_front ts k.front rest more 1 k.split in
        let x = k.excuse false false 0 a (take 1 rest ++ more) (next_taken rest more 1 (omega arith) (omega (arith, sizes, h, l))) (subst (λ z. ReadsSource unbounded a z []) w d) in
        subst (λ z. ExcusedAt false false 0 z (take 1 rest ++ more)) (sym e) x

  -- the cause of a fault, by what holds at i
  settled : (q : Cause) (i : ℕ) → i ≤ length ts → ((a : Source) (rest : List Token) → source n ts ≡ Ok (a, rest) → ⊥) → ((cause : Cause) (rest : List Token) (k : Halts ts cause rest) → (length k.front ≡ i) × (cause ≡ q)) → source n ts ≡ Err (q, drop i ts)
  settled q i l ok at = by (source n ts) refl
    where
      by : (o : Outcome Source) → source n ts ≡ o → source n ts ≡ Err (q, drop i ts)
      by (Ok x) e = absurd (ok x.0 x.1 e)
      by (Err x) e = let k = halts n ts room x.0 x.1 e in let z = at x.0 x.1 k in e ∙ (ap (λ y. Err (y, x.1)) z.1 ∙ ap (λ y. Err (q, y)) (left_there x.0 x.1 k i z.0))

  below_or : (i j : ℕ) → (j < i) ⊎ ((i < j) ⊎ (j ≡ i))
  below_or i j = go (ltb j i) (ltb i j) refl refl
    where
      go : (a b : Bool) → ltb j i ≡ a → ltb i j ≡ b → (j < i) ⊎ ((i < j) ⊎ (j ≡ i))
      go true b h g = inl (ltb-true j i h)
      go false true h g = inr (inl (ltb-true i j g))
      go false false h g = inr (inr (omega (arith, ltb-false j i h, ltb-false i j g)))

  -- the first fault is found
  pub refuses : (i : ℕ) → IsSyntaxFault ts i → source n ts ≡ Err (c.Syntax, drop i ts)
  refuses i f = settled c.Syntax i f.within ok at
    where
      here_or_end : (a : Source) → ReadsSource unbounded a ts [] → (b : Bool) → ltb i (length ts) ≡ b → ⊥
      here_or_end a d true h = f.here (ltb-true i (length ts) h) (drop (i + 1) ts, a, subst (λ z. ReadsSource unbounded a z []) (sym (take-append-drop (i + 1) ts)) d)
      here_or_end a d false h = f.at_end (omega (arith, f.within, ltb-false i (length ts) h)) a d

      ok : (a : Source) (rest : List Token) → source n ts ≡ Ok (a, rest) → ⊥
      ok a rest e = here_or_end a (whole_read a rest e false false 0) (ltb i (length ts)) refl

      at : (cause : Cause) (rest : List Token) (k : Halts ts cause rest) → (length k.front ≡ i) × (cause ≡ c.Syntax)
      at cause rest k = elim (below_or i (length k.front)) [
        | inl h ↦ absurd (no_earlier cause rest k i f.before f.within h)
        | inr (inl h) ↦ (let x = later cause rest k i false false h in absurd (f.here (omega (arith, h, sizes cause rest k i)) (x.0, x.1, x.2 0 (inr (refl, refl)))))
        | inr (inr h) ↦ (h, by cause refl h)
      ]
        where
          beyond : length k.front ≡ i → IsLimit cause → Lacks cause false false → ⊥
          beyond h l g = let x = there cause rest k i false false h l g in f.here (omega (arith, h, sizes cause rest k i, ap length (k.passes l).2)) (x.0, x.1, x.2 0 (inr (refl, refl)))

          by : (q : Cause) → cause ≡ q → length k.front ≡ i → cause ≡ c.Syntax
          by c.Syntax e h = e
          by c.Statements e h = absurd (beyond h (subst (λ z. IsLimit z) (sym e) tt) (subst (λ z. Lacks z false false) (sym e) refl))
          by c.Tokens e h = absurd (beyond h (subst (λ z. IsLimit z) (sym e) tt) (subst (λ z. Lacks z false false) (sym e) refl))

  -- the first token that passes a limit is found; s and t are the limits within which it passes
  passed : (q : Cause) (s t : Bool) (within : ℕ → Bounds) → ((u : ℕ) → bounds s t u ≡ within u) → ((cause : Cause) → IsLimit cause → (cause ≡ q) ⊎ Lacks cause s t) → (i : ℕ) → IsPassing within ts i → source n ts ≡ Err (q, drop i ts)
  passed q s t within same other i f = settled q i (omega (arith, f.inside)) ok at
    where
      no_source : (more : List Token) (a : Source) → ReadsSource (bounds s t (length more)) a (take (i + 1) ts ++ more) [] → ⊥
      no_source more a d = f.passes (more, a, subst (λ b. ReadsSource b a (take (i + 1) ts ++ more) []) (same (length more)) d)

      ok : (a : Source) (rest : List Token) → source n ts ≡ Ok (a, rest) → ⊥
      ok a rest e = no_source (drop (i + 1) ts) a (goes_on a rest e (i + 1) s t (length (drop (i + 1) ts)))

      at : (cause : Cause) (rest : List Token) (k : Halts ts cause rest) → (length k.front ≡ i) × (cause ≡ q)
      at cause rest k = elim (below_or i (length k.front)) [
        | inl h ↦ absurd (no_earlier cause rest k i f.before (omega (arith, f.inside)) h)
        | inr (inl h) ↦ (let x = later cause rest k i s t h in absurd (no_source x.0 x.1 (x.2 (length x.0) (inl (omega arith)))))
        | inr (inr h) ↦ (h, by cause refl h)
      ]
        where
          limit : length k.front ≡ i → IsLimit cause → cause ≡ q
          limit h l = elim (other cause l) [
            | inl e ↦ e
            | inr g ↦ (let x = there cause rest k i s t h l g in absurd (no_source x.0 x.1 (x.2 (length x.0) (inl (omega arith)))))
          ]

          by : (p : Cause) → cause ≡ p → length k.front ≡ i → cause ≡ q
          by c.Syntax e h = absurd (is_limit cause rest k i h f.inside f.begins (sym e))
          by c.Statements e h = limit h (subst (λ z. IsLimit z) (sym e) tt)
          by c.Tokens e h = limit h (subst (λ z. IsLimit z) (sym e) tt)

  pub passes_statements : (i : ℕ) → IsPassing statement_limit ts i → source n ts ≡ Err (c.Statements, drop i ts)
  passes_statements i f = passed c.Statements true false statement_limit (λ u. refl) other i f
    where
      other : (cause : Cause) → IsLimit cause → (cause ≡ c.Statements) ⊎ Lacks cause true false
      other c.Syntax l = absurd l
      other c.Statements l = inl refl
      other c.Tokens l = inr refl

  pub passes_tokens : (i : ℕ) → IsPassing expression_limit ts i → source n ts ≡ Err (c.Tokens, drop i ts)
  passes_tokens i f = passed c.Tokens false true expression_limit (λ u. refl) other i f
    where
      other : (cause : Cause) → IsLimit cause → (cause ≡ c.Tokens) ⊎ Lacks cause false true
      other c.Syntax l = absurd l
      other c.Statements l = inr refl
      other c.Tokens l = inl refl
