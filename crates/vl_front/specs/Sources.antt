-- What a source text stands for, and why one is refused (IEEE 1364-2005, clauses 3 to 12 and annex A; the limits, and the order of
-- faults, are own).
use Rattle.std.specs.Prelude.{◌≡◌, ℕ, List, [], Ok, Err, Result, ⊤}
use Rattle.vl_elab.specs.vl_base.specs.declared.place.Place.{Place}
use Rattle.vl_lex.specs.vl_tree.specs.declared.token.Token.{Token}
use Rattle.vl_lex.specs.vl_tree.specs.Faults.{IsRead, IsFirstFault, IsFirstLimit}
use Rattle.vl_lex.specs.vl_tree.specs.Tokens.{start, place_after}
use Rattle.vl_lex.specs.vl_tree.specs.declared.source_tree.Source.{Source}
use Rattle.vl_lex.specs.vl_tree.specs.GrammarOfSource.{ReadsSource}
use Rattle.vl_lex.specs.vl_tree.specs.FaultsOfSource.{PassesLimit, limits, statement_limit, expression_limit}
use Rattle.vl_lex.specs.vl_tree.specs.FaultsOfSource.{IsFirstFault as IsSyntaxFault}
use Rattle.vl_elab.specs.vl_design.specs.Syntax.{Flat}
use Rattle.vl_elab.specs.vl_design.specs.declared.stop.Stop.TheVariants.{Construct, Limit}
use Rattle.vl_elab.specs.vl_design.specs.Placed as p
use Rattle.vl_elab.specs.vl_design.specs.Plainly as plain
use Rattle.vl_elab.specs.vl_sound.specs.Meeting.{IsElaboration}
use Rattle.vl_accept.specs.declared.accept.Accepted.{Accepted}
use Rattle.vl_accept.specs.declared.fault.Fault.TheVariants as accept
use Rattle.vl_accept.specs.Accepted.{IsAccepted, IsRefused, Stands}
use Rattle.vl_front.specs.declared.fault.BuildError.{BuildError}
use Rattle.vl_front.specs.declared.fault.BuildError.TheVariants.{Refused, Memory}
use Rattle.vl_front.specs.declared.fault.Kind.{Kind}
use Rattle.vl_front.specs.declared.fault.Kind.TheVariants as k

-- the place after the last byte of a text: line and column from 1
abbrev pub end_of : List ℕ → Place
end_of text = place_after start text

-- the tree of a text: its tokens are a source within the limits
pub record IsTreeOf (text : List ℕ) (tree : Source) : Type 0 where
  pub tokens : List Token
  pub read : IsRead text tokens
  pub parsed : ReadsSource (limits 0) tree tokens []

-- the flat design of a text: the elaboration of its tree
pub record IsDesignOf (text : List ℕ) (flat : p.Design) : Type 0 where
  pub tree : Source
  pub of : IsTreeOf text tree
  pub elaborated : IsElaboration tree (Ok flat)

-- a text stands for this design: its flat design is accepted, and the design is that one without places
pub record StandsFor (text : List ℕ) (design : Flat) : Type 0 where
  pub flat : p.Design
  pub of : IsDesignOf text flat
  pub accepted : IsAccepted flat
  pub is : design ≡ plain.flat flat

-- the place and the kind for which a text is refused: its first lexical fault or limit; else the first syntax fault of its tokens, or
-- limit 3 or 4; else it has a tree, and the first fault of its elaboration; else it has a flat design, and the first fault for which
-- that isn't accepted
pub data IsRefusal (text : List ℕ) (place : Place) (kind : Kind) : Type 0 where
  fault : {cause : ℕ} → IsFirstFault text place cause → kind ≡ k.Lex cause → IsRefusal text place kind
  passed : {number : ℕ} → IsFirstLimit text place number → kind ≡ k.Limit number → IsRefusal text place kind
  unparsed : {tokens : List Token} → IsRead text tokens → IsSyntaxFault tokens (end_of text) place → kind ≡ k.Parse → IsRefusal text place kind
  too_deep : {tokens : List Token} → IsRead text tokens → PassesLimit statement_limit tokens (end_of text) place → kind ≡ k.Limit 3 → IsRefusal text place kind
  too_long : {tokens : List Token} → IsRead text tokens → PassesLimit expression_limit tokens (end_of text) place → kind ≡ k.Limit 4 → IsRefusal text place kind
  misbuilt : {tree : Source} {number : ℕ} → IsTreeOf text tree → IsElaboration tree (Err (Construct place number)) → kind ≡ k.Construct number → IsRefusal text place kind
  outgrown : {tree : Source} {number : ℕ} → IsTreeOf text tree → IsElaboration tree (Err (Limit place number)) → kind ≡ k.Limit number → IsRefusal text place kind
  unfit : {flat : p.Design} {number : ℕ} → IsDesignOf text flat → IsRefused flat (accept.Construct place number) → kind ≡ k.Construct number → IsRefusal text place kind
  too_large : {flat : p.Design} {number : ℕ} → IsDesignOf text flat → IsRefused flat (accept.Limit place number) → kind ≡ k.Limit number → IsRefusal text place kind
  looped : {flat : p.Design} {cycle : List ℕ} → IsDesignOf text flat → IsRefused flat (accept.Loop place cycle) → kind ≡ k.Loop cycle → IsRefusal text place kind

-- a kind, whichever combinational loop it shows
abbrev pub but_cycle : Kind → Kind
but_cycle (k.Loop cycle) = k.Loop []
but_cycle (k.Lex cause) = k.Lex cause
but_cycle k.Parse = k.Parse
but_cycle (k.Construct number) = k.Construct number
but_cycle (k.Limit number) = k.Limit number

-- with its loops unrolled, and an order of its processes, this is the design that a text stands for
pub record IsAcceptedOf (text : List ℕ) (a : Accepted) : Type 0 where
  pub flat : p.Design
  pub of : IsDesignOf text flat
  pub stands : Stands flat a

-- what comes of a text
abbrev pub IsFront : List ℕ → Result Accepted BuildError → Type 0
IsFront text (Ok a) = IsAcceptedOf text a
IsFront text (Err (Refused place kind)) = IsRefusal text place kind
IsFront text (Err Memory) = ⊤
