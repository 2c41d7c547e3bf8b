-- What is read of a source, said of its tokens.
use Rattle.std.proofs.Common.{◌≡◌, ℕ, zero, suc, ◌+◌, ◌-◌, ◌<◌, ◌⊎◌, inl, inr, length, List, [], ◌∷◌, drop, Result, Ok, Err, refl, sym, ap, arith, ◌∙◌}
use Rattle.std.specs.Result.{IfOk}
use Rattle.vl_tree.specs.vl_base.specs.declared.place.Place.{Place}
use Rattle.vl_tree.specs.declared.token.Token.{Token}
use Rattle.vl_tree.specs.Begins.{place_at}
use Rattle.vl_pstmt.specs.vl_pexpr.specs.declared.parse.ParseFault.{ParseFault}
use Rattle.vl_pstmt.specs.vl_pexpr.specs.declared.parse.ParseFault.TheVariants as f
use Rattle.vl_tree.specs.declared.source_tree.Source.{Source}
use Rattle.vl_tree.specs.declared.source_fault.Cause.{Cause}
use Rattle.vl_tree.specs.declared.source_fault.Cause.TheVariants as c
use Rattle.vl_tree.specs.GrammarOfSource.{ReadsSource}
use Rattle.vl_tree.specs.FaultsOfSource.{IsSource, IsFirstFault, PassesLimit, limits, statement_limit, expression_limit}
use Rattle.vl_tree.specs.Parsing.{source}
use Rattle.vl_parse.specs.Parts.{fault_of}
use Rattle.vl_tree.proofs.SourceLaws.{FaultAt, stuck}
use Rattle.vl_tree.proofs.Outcomes.{read_within, read_source, read_only, accepts, refuses, passes_statements, passes_tokens}

-- ---- places

-- the first token from i on is the one at i
first_at : (ts : List Token) (i : ℕ) (end : Place) → place_at (drop i ts) 0 end ≡ place_at ts i end
first_at ts zero end = refl
first_at [] (suc i) end = refl
first_at (t ∷ ts) (suc i) end = first_at ts i end

-- ---- the clauses

pub record Judged (tokens : List Token) (end : Place) (r : Result Source ParseFault) : Type 0 where
  pub read : IfOk r (λ s. IsSource s tokens)
  pub only : IfOk r (λ s. (other : Source) → IsSource other tokens → other ≡ s)
  pub within : IfOk r (λ s. ReadsSource (limits 0) s tokens [])
  pub fault : (p : Place) → r ≡ Err (f.At p) → IsFirstFault tokens end p
  pub limit : (p : Place) (n : ℕ) → r ≡ Err (f.Limit p n) → ((n ≡ 3) × PassesLimit statement_limit tokens end p) ⊎ ((n ≡ 4) × PassesLimit expression_limit tokens end p)
  pub accepts : (s : Source) → ReadsSource (limits 0) s tokens [] → (r ≡ Ok s) ⊎ (r ≡ Err f.Memory)
  pub refuses : (p : Place) → IsFirstFault tokens end p → (r ≡ Err (f.At p)) ⊎ (r ≡ Err f.Memory)
  pub limits_statements : (p : Place) → PassesLimit statement_limit tokens end p → (r ≡ Err (f.Limit p 3)) ⊎ (r ≡ Err f.Memory)
  pub limits_expressions : (p : Place) → PassesLimit expression_limit tokens end p → (r ≡ Err (f.Limit p 4)) ⊎ (r ≡ Err f.Memory)

ok_parts : {A E : Type 0} (x y : A) → let r : Result A E = Ok x in r ≡ Ok y → x ≡ y
ok_parts x y h = cc

err_parts : {A E : Type 0} (x y : E) → let r : Result A E = Err x in r ≡ Err y → x ≡ y
err_parts x y h = cc

clash : {A E : Type 0} (r : Result A E) (x : A) (y : E) → r ≡ Ok x → r ≡ Err y → ⊥
clash r x y h g = cc

module _ (tokens : List Token) (end : Place) where
  room : length tokens + 1 < length tokens + 2
  room = omega arith

  pub memory_judged : Judged tokens end (Err f.Memory)
  memory_judged = record {
    read = tt;
    only = tt;
    within = tt;
    fault = λ p h. let z : ⊥ = cc in absurd z;
    limit = λ p n h. let z : ⊥ = cc in absurd z;
    accepts = λ s d. inr refl;
    refuses = λ p x. inr refl;
    limits_statements = λ p x. inr refl;
    limits_expressions = λ p x. inr refl;
  }

  pub ok_judged : (s : Source) → source (length tokens + 2) tokens ≡ Ok (s, []) → Judged tokens end (Ok s)
  ok_judged s h = record {
    read = read_source (length tokens + 2) tokens room s h;
    only = λ other d. read_only (length tokens + 2) tokens room s h other d;
    within = read_within (length tokens + 2) tokens room s h;
    fault = λ p z. let w : ⊥ = cc in absurd w;
    limit = λ p n z. let w : ⊥ = cc in absurd w;
    accepts = λ other d. inl (ap (λ x. Ok x.0) (ok_parts (s, []) (other, []) (sym h ∙ accepts (length tokens + 2) tokens room other d)));
    refuses = λ p x. absurd (clash _ _ _ h (refuses (length tokens + 2) tokens room x.index x.fault));
    limits_statements = λ p x. absurd (clash _ _ _ h (passes_statements (length tokens + 2) tokens room x.index x.passing));
    limits_expressions = λ p x. absurd (clash _ _ _ h (passes_tokens (length tokens + 2) tokens room x.index x.passing));
  }

  fault_by : (cause : Cause) (i : ℕ) (place : Place) → FaultAt tokens cause i → place ≡ place_at tokens i end → (p : Place) → let r : Result Source ParseFault = Err (fault_of cause place) in r ≡ Err (f.At p) → IsFirstFault tokens end p
  fault_by c.Syntax i place a e p z = let w : place ≡ p = cc in record { index = i; fault = a; place = sym w ∙ e }
  fault_by c.Statements i place a e p z = let w : ⊥ = cc in absurd w
  fault_by c.Tokens i place a e p z = let w : ⊥ = cc in absurd w

  limit_by : (cause : Cause) (i : ℕ) (place : Place) → FaultAt tokens cause i → place ≡ place_at tokens i end → (p : Place) (n : ℕ) → let r : Result Source ParseFault = Err (fault_of cause place) in r ≡ Err (f.Limit p n)
      → ((n ≡ 3) × PassesLimit statement_limit tokens end p) ⊎ ((n ≡ 4) × PassesLimit expression_limit tokens end p)
  limit_by c.Syntax i place a e p n z = let w : ⊥ = cc in absurd w
  limit_by c.Statements i place a e p n z = let w : place ≡ p = cc in let v : n ≡ 3 = cc in inl (v, record { index = i; passing = a; place = sym w ∙ e })
  limit_by c.Tokens i place a e p n z = let w : place ≡ p = cc in let v : n ≡ 4 = cc in inr (v, record { index = i; passing = a; place = sym w ∙ e })

  module _ (cause : Cause) (rest : List Token) (h : source (length tokens + 2) tokens ≡ Err (cause, rest)) where
    -- another fault is this one
    same : (other : Cause) (i : ℕ) (p : Place) → source (length tokens + 2) tokens ≡ Err (other, drop i tokens) → p ≡ place_at tokens i end → let r : Result Source ParseFault = Err (fault_of cause (place_at rest 0 end)) in r ≡ Err (fault_of other p)
    same other i p g e =
        let w = err_parts (cause, rest) (other, drop i tokens) (sym h ∙ g) in
        let a : cause ≡ other = ap (λ x. x.0) w in
        let b : rest ≡ drop i tokens = ap (λ x. x.1) w in
        rw (a, b, e, first_at tokens i end) refl

    pub fault_judged : Judged tokens end (Err (fault_of cause (place_at rest 0 end)))
    fault_judged =
        let k = stuck (length tokens + 2) tokens room cause rest h in
        let i : ℕ = length tokens - length rest in
        let e : place_at rest 0 end ≡ place_at tokens i end = ap (λ z. place_at z 0 end) k.0 ∙ first_at tokens i end in
        record {
          read = tt;
          only = tt;
          within = tt;
          fault = fault_by cause i (place_at rest 0 end) k.2 e;
          limit = limit_by cause i (place_at rest 0 end) k.2 e;
          accepts = λ s d. absurd (clash _ _ _ (accepts (length tokens + 2) tokens room s d) h);
          refuses = λ p x. inl (same c.Syntax x.index p (refuses (length tokens + 2) tokens room x.index x.fault) x.place);
          limits_statements = λ p x. inl (same c.Statements x.index p (passes_statements (length tokens + 2) tokens room x.index x.passing) x.place);
          limits_expressions = λ p x. inl (same c.Tokens x.index p (passes_tokens (length tokens + 2) tokens room x.index x.passing) x.place);
        }
