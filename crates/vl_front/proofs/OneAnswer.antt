-- A text stands for one design at most, or is refused at one place for one reason.
use Rattle.std.proofs.Common.{◌≡◌, ℕ, ◌+◌, inl, inr, List, [], length, Result, Ok, Err, refl, sym, ap, ◌∙◌, subst, arith}
use Rattle.vl_elab.specs.vl_base.specs.declared.place.Place.{Place}
use Rattle.vl_lex.specs.vl_tree.specs.declared.token.Token.{Token}
use Rattle.vl_lex.specs.vl_tree.specs.Faults.{IsRead, IsFirstFault, IsFirstLimit}
use Rattle.vl_lex.specs.declared.lex.LexFault.TheVariants.{At, Limit}
use Rattle.vl_lex.proofs.PassLaws.{tokens_once}
use Rattle.vl_lex.proofs.LexLaws.{only_tokens, only_fault, only_limit}
use Rattle.vl_lex.specs.vl_tree.specs.declared.source_tree.Source.{Source}
use Rattle.vl_lex.specs.vl_tree.specs.GrammarOfSource.{ReadsSource}
use Rattle.vl_lex.specs.vl_tree.specs.FaultsOfSource.{limits, statement_limit, expression_limit, PassesLimit}
use Rattle.vl_lex.specs.vl_tree.specs.FaultsOfSource.{IsFirstFault as IsSyntaxFault}
use Rattle.vl_lex.specs.vl_tree.proofs.FollowsOfSource.{ok_parts}
use Rattle.vl_lex.specs.vl_tree.proofs.Outcomes.{accepts}
use Rattle.vl_lex.specs.vl_tree.proofs.OneOutcome as one
use Rattle.vl_lex.specs.vl_tree.specs.Begins.{place_at}
use Rattle.vl_elab.specs.vl_design.specs.Syntax.{Flat}
use Rattle.vl_elab.specs.vl_design.specs.declared.stop.Stop.TheVariants as stop
use Rattle.vl_elab.specs.vl_design.specs.Placed as p
use Rattle.vl_elab.specs.vl_design.specs.Plainly as plain
use Rattle.vl_elab.specs.vl_sound.specs.Meeting.{IsElaboration}
use Rattle.vl_elab.proofs.Once.{elaborated_once}
use Rattle.vl_accept.specs.declared.fault.Fault.{Fault}
use Rattle.vl_accept.specs.declared.fault.Fault.TheVariants as accept
use Rattle.vl_accept.specs.Accepted as shown
use Rattle.vl_accept.specs.Accepted.{IsAccepted, IsRefused}
use Rattle.vl_accept.proofs.Once.{accepted-or-refused, refused-once}
use Rattle.vl_front.specs.declared.fault.Kind.{Kind}
use Rattle.vl_front.specs.declared.fault.Kind.TheVariants as w
use Rattle.vl_front.specs.Sources.{but_cycle, end_of, IsTreeOf, IsDesignOf, StandsFor, IsRefusal, fault, passed, unparsed, too_deep, too_long, misbuilt, outgrown, unfit, too_large, looped}

-- where a text is refused, and for a reason of which kind
abbrev Why : Type 0
Why = Place × Kind

abbrev why : Place → Kind → Why
why p a = (p, a)

-- ---- the tokens of a text

-- the tokens, or why there is none: the first lexical fault or limit
data Lexed (text : List ℕ) (r : Result (List Token) Why) : Type 0 where
  tokens : (ts : List Token) → IsRead text ts → r ≡ Ok ts → Lexed text r
  misspelt : (p : Place) (c : ℕ) → IsFirstFault text p c → r ≡ Err (why p (w.Lex c)) → Lexed text r
  past : (p : Place) (n : ℕ) → IsFirstLimit text p n → r ≡ Err (why p (w.Limit n)) → Lexed text r

same_fault : (p q : Place) (c d : ℕ) → At p c ≡ At q d → why p (w.Lex c) ≡ why q (w.Lex d)
same_fault p q c d e = let place : p ≡ q = cc in let cause : c ≡ d = cc in rw (place, cause) refl

same_limit : (p q : Place) (c d : ℕ) → Limit p c ≡ Limit q d → why p (w.Limit c) ≡ why q (w.Limit d)
same_limit p q c d e = let place : p ≡ q = cc in let number : c ≡ d = cc in rw (place, number) refl

no_both : {X : Type 0} (p q : Place) (c d : ℕ) → At p c ≡ Limit q d → X
no_both p q c d e = absurd cc

lexed_once : (text : List ℕ) (r q : Result (List Token) Why) → Lexed text r → Lexed text q → r ≡ q
lexed_once text r q (tokens ts h e) (tokens us k f) = e ∙ ap Ok (tokens_once text ts us h.read k.read) ∙ sym f
lexed_once text r q (tokens ts h e) (misspelt p c k f) = absurd (only_tokens text (Err (At p c)) ts tt k h)
lexed_once text r q (tokens ts h e) (past p n k f) = absurd (only_tokens text (Err (Limit p n)) ts tt k h)
lexed_once text r q (misspelt p c h e) (tokens us k f) = absurd (only_tokens text (Err (At p c)) us tt h k)
lexed_once text r q (misspelt p c h e) (misspelt p' d k f) = e ∙ ap Err (same_fault p p' c d (only_fault text (Err (At p c)) p' d tt h k)) ∙ sym f
lexed_once text r q (misspelt p c h e) (past p' n k f) = no_both p p' c n (only_limit text (Err (At p c)) p' n tt h k)
lexed_once text r q (past p n h e) (tokens us k f) = absurd (only_tokens text (Err (Limit p n)) us tt h k)
lexed_once text r q (past p n h e) (misspelt p' c k f) = no_both p' p c n (only_limit text (Err (At p' c)) p n tt k h)
lexed_once text r q (past p n h e) (past p' m k f) = e ∙ ap Err (same_limit p p' n m (only_limit text (Err (Limit p n)) p' m tt h k)) ∙ sym f

-- ---- the tree of tokens

one_tree : (ts : List Token) (a b : Source) → ReadsSource (limits 0) a ts [] → ReadsSource (limits 0) b ts [] → a ≡ b
one_tree ts a b d e = ap (λ x. x.0) (ok_parts (sym (accepts (length ts + 2) ts (omega arith) a d) ∙ accepts (length ts + 2) ts (omega arith) b e))

-- the tree, or why there is none: the first syntax fault, or limit 3 or 4
data Parsed (ts : List Token) (end : Place) (r : Result Source Why) : Type 0 where
  tree : (s : Source) → ReadsSource (limits 0) s ts [] → r ≡ Ok s → Parsed ts end r
  misplaced : (p : Place) → IsSyntaxFault ts end p → r ≡ Err (why p w.Parse) → Parsed ts end r
  deep : (p : Place) → PassesLimit statement_limit ts end p → r ≡ Err (why p (w.Limit 3)) → Parsed ts end r
  long : (p : Place) → PassesLimit expression_limit ts end p → r ≡ Err (why p (w.Limit 4)) → Parsed ts end r

-- two places of one index are one
same_place : (ts : List Token) (end p q : Place) (i j : ℕ) (kind : Kind) → p ≡ place_at ts i end → q ≡ place_at ts j end → i ≡ j → why p kind ≡ why q kind
same_place ts end p q i j kind h k e = ap (λ z. why z kind) (h ∙ (ap (λ n. place_at ts n end) e ∙ sym k))

parsed_once : (ts : List Token) (end : Place) (r q : Result Source Why) → Parsed ts end r → Parsed ts end q → r ≡ q
parsed_once ts end r q (tree s h e) (tree t k f) = e ∙ ap Ok (one_tree ts s t h k) ∙ sym f
parsed_once ts end r q (tree s h e) (misplaced p k f) = absurd (one.no_syntax ts s k.index h k.fault)
parsed_once ts end r q (tree s h e) (deep p k f) = absurd (one.no_limit ts s k.index h (inl k.passing))
parsed_once ts end r q (tree s h e) (long p k f) = absurd (one.no_limit ts s k.index h (inr k.passing))
parsed_once ts end r q (misplaced p h e) (tree t k f) = absurd (one.no_syntax ts t h.index k h.fault)
parsed_once ts end r q (misplaced p h e) (misplaced p' k f) = e ∙ ap Err (same_place ts end p p' h.index k.index w.Parse h.place k.place (one.syntax_once ts h.index k.index h.fault k.fault)) ∙ sym f
parsed_once ts end r q (misplaced p h e) (deep p' k f) = absurd (one.syntax_or_statements ts h.index k.index h.fault k.passing)
parsed_once ts end r q (misplaced p h e) (long p' k f) = absurd (one.syntax_or_tokens ts h.index k.index h.fault k.passing)
parsed_once ts end r q (deep p h e) (tree t k f) = absurd (one.no_limit ts t h.index k (inl h.passing))
parsed_once ts end r q (deep p h e) (misplaced p' k f) = absurd (one.syntax_or_statements ts k.index h.index k.fault h.passing)
parsed_once ts end r q (deep p h e) (deep p' k f) = e ∙ ap Err (same_place ts end p p' h.index k.index (w.Limit 3) h.place k.place (one.statements_once ts h.index k.index h.passing k.passing)) ∙ sym f
parsed_once ts end r q (deep p h e) (long p' k f) = absurd (one.one_limit ts h.index k.index h.passing k.passing)
parsed_once ts end r q (long p h e) (tree t k f) = absurd (one.no_limit ts t h.index k (inr h.passing))
parsed_once ts end r q (long p h e) (misplaced p' k f) = absurd (one.syntax_or_tokens ts k.index h.index k.fault h.passing)
parsed_once ts end r q (long p h e) (deep p' k f) = absurd (one.one_limit ts k.index h.index k.passing h.passing)
parsed_once ts end r q (long p h e) (long p' k f) = e ∙ ap Err (same_place ts end p p' h.index k.index (w.Limit 4) h.place k.place (one.tokens_once ts h.index k.index h.passing k.passing)) ∙ sym f

-- ---- the elaboration of a tree

-- why a design is refused; for want of memory none is
abbrev why_of : Fault → Why
why_of (accept.Construct p n) = why p (w.Construct n)
why_of (accept.Limit p n) = why p (w.Limit n)
why_of (accept.Loop p cycle) = why p (w.Loop [])
why_of accept.Memory = why (record { line = 0; column = 0 }) (w.Loop [])

-- whichever loop is shown
why_but : (f : Fault) → why_of f ≡ why_of (shown.but_cycle f)
why_but (accept.Construct p n) = refl
why_but (accept.Limit p n) = refl
why_but (accept.Loop p cycle) = refl
why_but accept.Memory = refl

why_once : (f g : Fault) → shown.but_cycle f ≡ shown.but_cycle g → why_of f ≡ why_of g
why_once f g e = why_but f ∙ (ap why_of e ∙ sym (why_but g))

-- the design that runs, or the first fault for which it isn't accepted
data Judged (d : p.Design) (r : Result Flat Why) : Type 0 where
  runs : IsAccepted d → r ≡ Ok (plain.flat d) → Judged d r
  refused : (f : Fault) → IsRefused d f → r ≡ Err (why_of f) → Judged d r

judged_once : (d : p.Design) (r q : Result Flat Why) → Judged d r → Judged d q → r ≡ q
judged_once d r q (runs a e) (runs b f) = e ∙ sym f
judged_once d r q (runs a e) (refused g k f) = absurd (accepted-or-refused d g a k)
judged_once d r q (refused g h e) (runs b f) = absurd (accepted-or-refused d g b h)
judged_once d r q (refused g h e) (refused i k f) = e ∙ (ap Err (why_once g i (refused-once d g i h k)) ∙ sym f)

-- what is judged of the flat design, or the first fault or limit of the elaboration
data Built (s : Source) (r : Result Flat Why) : Type 0 where
  flat : (d : p.Design) → IsElaboration s (Ok d) → Judged d r → Built s r
  faulty : (p : Place) (n : ℕ) → IsElaboration s (Err (stop.Construct p n)) → r ≡ Err (why p (w.Construct n)) → Built s r
  large : (p : Place) (n : ℕ) → IsElaboration s (Err (stop.Limit p n)) → r ≡ Err (why p (w.Limit n)) → Built s r

same_construct : (p q : Place) (m n : ℕ) → stop.Construct p m ≡ stop.Construct q n → why p (w.Construct m) ≡ why q (w.Construct n)
same_construct p q m n e = let place : p ≡ q = cc in let number : m ≡ n = cc in rw (place, number) refl

same_stop : (p q : Place) (m n : ℕ) → stop.Limit p m ≡ stop.Limit q n → why p (w.Limit m) ≡ why q (w.Limit n)
same_stop p q m n e = let place : p ≡ q = cc in let number : m ≡ n = cc in rw (place, number) refl

no_stops : {X : Type 0} (p q : Place) (m n : ℕ) → stop.Construct p m ≡ stop.Limit q n → X
no_stops p q m n e = absurd cc

ok_same : {A B : Type 0} (a b : A) → ◌≡◌ {A = Result A B} (Ok a) (Ok b) → a ≡ b
ok_same a b h = cc

err_same : {A B : Type 0} (a b : B) → ◌≡◌ {A = Result A B} (Err a) (Err b) → a ≡ b
err_same a b h = cc

ok_no_err : {A B X : Type 0} (a : A) (b : B) → ◌≡◌ {A = Result A B} (Ok a) (Err b) → X
ok_no_err a b h = absurd cc

built_once : (s : Source) (r q : Result Flat Why) → Built s r → Built s q → r ≡ q
built_once s r q (flat d h j) (flat e k i) =
    let same : d ≡ e = ok_same d e (elaborated_once s (Ok d) (Ok e) h k) in
    judged_once e r q (subst (λ z. Judged z r) same j) i
built_once s r q (flat d h j) (faulty p n k f) = ok_no_err d (stop.Construct p n) (elaborated_once s _ _ h k)
built_once s r q (flat d h j) (large p n k f) = ok_no_err d (stop.Limit p n) (elaborated_once s _ _ h k)
built_once s r q (faulty p n h e) (flat d k i) = ok_no_err d (stop.Construct p n) (elaborated_once s _ _ k h)
built_once s r q (faulty p m h e) (faulty p' n k f) = e ∙ (ap Err (same_construct p p' m n (err_same _ _ (elaborated_once s _ _ h k))) ∙ sym f)
built_once s r q (faulty p m h e) (large p' n k f) = no_stops p p' m n (err_same _ _ (elaborated_once s _ _ h k))
built_once s r q (large p n h e) (flat d k i) = ok_no_err d (stop.Limit p n) (elaborated_once s _ _ k h)
built_once s r q (large p m h e) (faulty p' n k f) = no_stops p' p n m (err_same _ _ (elaborated_once s _ _ k h))
built_once s r q (large p m h e) (large p' n k f) = e ∙ (ap Err (same_stop p p' m n (err_same _ _ (elaborated_once s _ _ h k))) ∙ sym f)

-- ---- the answer to a text

data Answered (text : List ℕ) (r : Result Flat Why) : Type 0 where
  unread : (y : Why) → Lexed text (Err y) → r ≡ Err y → Answered text r
  untreed : (ts : List Token) (y : Why) → Lexed text (Ok ts) → Parsed ts (end_of text) (Err y) → r ≡ Err y → Answered text r
  built : (ts : List Token) (s : Source) → Lexed text (Ok ts) → Parsed ts (end_of text) (Ok s) → Built s r → Answered text r

answered_once : (text : List ℕ) (r q : Result Flat Why) → Answered text r → Answered text q → r ≡ q
answered_once text r q (unread a h e) (unread b k f) = e ∙ (ap Err (err_same a b (lexed_once text (Err a) (Err b) h k)) ∙ sym f)
answered_once text r q (unread a h e) (untreed ts b k l f) = ok_no_err ts a (lexed_once text (Ok ts) (Err a) k h)
answered_once text r q (unread a h e) (built ts s k l b) = ok_no_err ts a (lexed_once text (Ok ts) (Err a) k h)
answered_once text r q (untreed ts a h i e) (unread b k f) = ok_no_err ts b (lexed_once text (Ok ts) (Err b) h k)
answered_once text r q (untreed ts a h i e) (untreed us b k l f) =
    let same : ts ≡ us = ok_same ts us (lexed_once text (Ok ts) (Ok us) h k) in
    e ∙ (ap Err (err_same a b (parsed_once us (end_of text) (Err a) (Err b) (subst (λ z. Parsed z (end_of text) (Err a)) same i) l)) ∙ sym f)
answered_once text r q (untreed ts a h i e) (built us s k l b) =
    let same : ts ≡ us = ok_same ts us (lexed_once text (Ok ts) (Ok us) h k) in
    ok_no_err s a (parsed_once us (end_of text) (Ok s) (Err a) l (subst (λ z. Parsed z (end_of text) (Err a)) same i))
answered_once text r q (built ts s h i b) (unread c k f) = ok_no_err ts c (lexed_once text (Ok ts) (Err c) h k)
answered_once text r q (built ts s h i b) (untreed us c k l f) =
    let same : ts ≡ us = ok_same ts us (lexed_once text (Ok ts) (Ok us) h k) in
    ok_no_err s c (parsed_once us (end_of text) (Ok s) (Err c) (subst (λ z. Parsed z (end_of text) (Ok s)) same i) l)
answered_once text r q (built ts s h i b) (built us t k l c) =
    let same : ts ≡ us = ok_same ts us (lexed_once text (Ok ts) (Ok us) h k) in
    let tree : s ≡ t = ok_same s t (parsed_once us (end_of text) (Ok s) (Ok t) (subst (λ z. Parsed z (end_of text) (Ok s)) same i) l) in
    built_once t r q (subst (λ z. Built z r) tree b) c

-- ---- of the definitions

treed : (text : List ℕ) (s : Source) (r : Result Flat Why) → IsTreeOf text s → Built s r → Answered text r
treed text s r t b = built t.tokens s (tokens t.tokens t.read refl) (tree s t.parsed refl) b

designed : (text : List ℕ) (d : p.Design) (r : Result Flat Why) → IsDesignOf text d → Judged d r → Answered text r
designed text d r h j = treed text h.tree r h.of (flat d h.elaborated j)

stands : (text : List ℕ) (d : Flat) → StandsFor text d → Answered text (Ok d)
stands text d h = designed text h.flat (Ok d) h.of (runs h.accepted (ap Ok h.is))

module _ (text : List ℕ) (place : Place) (kind : Kind) where
  -- for a reason that is this one
  is : (a : Kind) → kind ≡ a → ◌≡◌ {A = Result Flat Why} (Err (why place (but_cycle kind))) (Err (why place (but_cycle a)))
  is a e = ap (λ z. Err (why place (but_cycle z))) e

  refuses : IsRefusal text place kind → Answered text (Err (why place (but_cycle kind)))
  refuses (fault {cause} h e) = unread (why place (w.Lex cause)) (misspelt place cause h refl) (is (w.Lex cause) e)
  refuses (passed {number} h e) = unread (why place (w.Limit number)) (past place number h refl) (is (w.Limit number) e)
  refuses (unparsed {tokens = ts} h g e) = untreed ts (why place w.Parse) (tokens ts h refl) (misplaced place g refl) (is w.Parse e)
  refuses (too_deep {tokens = ts} h g e) = untreed ts (why place (w.Limit 3)) (tokens ts h refl) (deep place g refl) (is (w.Limit 3) e)
  refuses (too_long {tokens = ts} h g e) = untreed ts (why place (w.Limit 4)) (tokens ts h refl) (long place g refl) (is (w.Limit 4) e)
  refuses (misbuilt {tree = s} {number} h g e) = treed text s _ h (faulty place number g (is (w.Construct number) e))
  refuses (outgrown {tree = s} {number} h g e) = treed text s _ h (large place number g (is (w.Limit number) e))
  refuses (unfit {flat = d} {number} h g e) = designed text d _ h (refused (accept.Construct place number) g (is (w.Construct number) e))
  refuses (too_large {flat = d} {number} h g e) = designed text d _ h (refused (accept.Limit place number) g (is (w.Limit number) e))
  refuses (looped {flat = d} {cycle} h g e) = designed text d _ h (refused (accept.Loop place cycle) g (is (w.Loop cycle) e))

pub one_design : (text : List ℕ) (d e : Flat) → StandsFor text d → StandsFor text e → d ≡ e
one_design text d e h k = ok_same d e (answered_once text (Ok d) (Ok e) (stands text d h) (stands text e k))

pub one_refusal : (text : List ℕ) (p q : Place) (a b : Kind) → IsRefusal text p a → IsRefusal text q b → (p ≡ q) × (but_cycle a ≡ but_cycle b)
one_refusal text p q a b h g =
    let x = why p (but_cycle a) in
    let y = why q (but_cycle b) in
    let same = err_same x y (answered_once text (Err x) (Err y) (refuses text p a h) (refuses text q b g)) in
    (ap (λ (z : Why). z.0) same, ap (λ (z : Why). z.1) same)

pub not_both : (text : List ℕ) (d : Flat) (p : Place) (a : Kind) → StandsFor text d → IsRefusal text p a → ⊥
not_both text d p a h g = let x = why p (but_cycle a) in ok_no_err d x (answered_once text (Ok d) (Err x) (stands text d h) (refuses text p a g))
