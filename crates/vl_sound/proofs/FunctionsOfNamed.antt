-- Functions without faults: each name is used as what it is.
use Rattle.std.proofs.Common.{◌≡◌, ℕ, true, false, List, [], ◌++◌, Option, Some, None, refl}
use Rattle.std.specs.Prelude.{flat_map, All}
use Rattle.std.specs.Option.{option_map_or}
use Rattle.std.proofs.lemmas.List.Elements.{All-nil, All-cons, All-append}
use Rattle.vl_flat.specs.vl_tree.specs.declared.source_tree.Function.{Function as FunctionTree}
use Rattle.vl_flat.specs.vl_tree.specs.declared.source_tree.FunctionPort.{FunctionPort}
use Rattle.vl_flat.specs.vl_tree.specs.declared.source_tree.FunctionDeclaration.{FunctionDeclaration}
use Rattle.vl_flat.specs.vl_tree.specs.declared.source_tree.FunctionDeclaration.TheVariants as fd
use Rattle.vl_names.specs.vl_scope.specs.Declarations.{Declared, function_declarations}
use Rattle.vl_names.specs.vl_uses.specs.declared.setting.Setting.{Setting}
use Rattle.vl_names.specs.vl_uses.specs.Settings.{behind}
use Rattle.vl_names.specs.vl_uses.specs.Nodes as n
use Rattle.vl_names.specs.vl_uses.specs.UseFaults.{Meanings, meanings}
use Rattle.vl_flat.specs.Items.{Local}
use Rattle.vl_flat.specs.Declarations.{function, local, type, vector, inputs_in, locals_in}
use Rattle.vl_flat.specs.Items as i
use Rattle.vl_sound.specs.Used.{Classes, classes, IsUsedType, IsUsedFunction, within}
use Rattle.vl_sound.proofs.Fitting.{IsFine, MeansParameters, constant-fits}
use Rattle.vl_sound.proofs.Meanings.{function-means, function-parameters}
use Rattle.vl_sound.proofs.ExpressionsOfNamed.{Every, Suits, lefts-so, rights-so}
use Rattle.vl_sound.proofs.Types.{each-same, all-used, range-used, type-used}
use Rattle.vl_sound.proofs.StatementsOfNamed.{statement-used}

module _ (m : Meanings) (k : Classes) (means : MeansParameters m k) where
  abbrev P : n.Node → Type 0
  P = IsFine m

  abbrev Q : Setting → Type 0
  Q st = st.constant ≡ true

  -- parts in places for constants
  suits : Suits k P Q
  suits = record { part = λ s a q fine. constant-fits m k means s a q fine; constant = λ s q. refl }

  abbrev IsLocal : Local → Type 0
  IsLocal l = IsUsedType k l.type

  inputs-used : (st : Setting) (a : FunctionPort) → Every P (n.type_nodes st a.kind) → All IsLocal (inputs_in a)
  inputs-used st a w = let u = type-used k P Q suits st refl a.kind w in each-same (local true false (type a.kind)) IsLocal (λ name. u) a.names

  ports-used : (st : Setting) (o : Option (List FunctionPort)) → Every P (n.given (n.inputs_nodes st) o) → All IsLocal (option_map_or (flat_map inputs_in) o [])
  ports-used st None w = All-nil IsLocal
  ports-used st (Some ports) w = all-used P inputs_in (λ a. n.type_nodes st a.kind) IsLocal (inputs-used st) ports w

  locals-used : (st : Setting) (a : FunctionDeclaration) → Every P (n.function_declaration_nodes st a) → All IsLocal (locals_in a)
  locals-used st (fd.Input a) w = inputs-used st a w
  locals-used st (fd.Reg at signed range names) w = let u = range-used k P Q suits st refl range w in each-same (local false true (vector signed range)) IsLocal (λ name. u) names
  locals-used st (fd.Integer at names) w = each-same (local false true i.Integer) IsLocal (λ name. tt) names

  all-locals-used : (st : Setting) (a : FunctionTree)
      → Every P (n.type_nodes st a.kind) → Every P (n.given (n.inputs_nodes st) a.ports) → Every P (flat_map (n.function_declaration_nodes st) a.declarations) → All IsLocal (function a).locals
  all-locals-used st a w v u =
      let ports = option_map_or (flat_map inputs_in) a.ports [] in
      let others = flat_map locals_in a.declarations in
      All-cons IsLocal (local false false (type a.kind) a.name) (ports ++ others) (type-used k P Q suits st refl a.kind w)
      (All-append IsLocal ports others (ports-used st a.ports v) (all-used P locals_in (n.function_declaration_nodes st) IsLocal (locals-used st) a.declarations u))

pub function-used : (outer : List Declared) (count : ℕ) (a : FunctionTree) → Every (IsFine (meanings outer (function_declarations a))) (n.function_nodes (behind count) a) → IsUsedFunction (classes outer) (function a)
function-used outer count a w =
    let m = meanings outer (function_declarations a) in
    let P : n.Node → Type 0 = IsFine m in
    let st = behind count in
    let as' = n.type_nodes st a.kind in
    let bs = n.given (n.inputs_nodes st) a.ports in
    let cs = flat_map (n.function_declaration_nodes st) a.declarations in
    let ds = n.statement_nodes st a.statement in
    let three = lefts-so P (as' ++ bs ++ cs) ds w in
    let two = lefts-so P (as' ++ bs) cs three in
    record {
      locals = all-locals-used m (classes outer) (function-parameters outer a) st a (lefts-so P as' bs two) (rights-so P as' bs two) (rights-so P (as' ++ bs) cs three);
      body = statement-used m (within (classes outer) (function a)) (function-means outer a) st a.statement (rights-so P (as' ++ bs ++ cs) ds w);
    }
