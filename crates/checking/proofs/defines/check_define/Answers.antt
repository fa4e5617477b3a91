use Rattle.std.proofs.Common.{◌≡◌, Ok, Err, replicate, sym, ap, ◌∙◌, subst, arith, rules}
use Rattle.bodies.proofs.TypeLaws.{same_in}
use Rattle.checking.proofs.DefineLaws.{arity_other, arity_same, names_stopped, body_stopped, value_other, value_fits}
use Rattle.checking.specs.Defining.{DefineAnswers}
use Rattle.naming.specs.Judges.{desk, rows_of}
use Rattle.scopes.specs.Locals.{no_local}
use Rattle.type_rows.specs.Rows.{row_at, kind_at, IsKind}
use Rattle.type_rows.specs.declared.shape.Shape.TheVariants as shape
use Rattle.checking.proofs.defines.check_define.Goals as goal

pub returns-then-ne : goal.returns-then-ne
returns-then-ne c script ps e set valid stands size coded =
    let world = c.args.world.now in
    let k = c.in-Function.k in
    let v = subst (IsKind (rows_of world script)) c.in-Function.is valid in
    let is : c.row-row.result ≡ row_at (rows_of world script) k = search rules in
    let other : c.row-row.result.shape ≡ shape.Function c.arity_of.result → ⊥ = search rules in
    subst (λ kind. DefineAnswers world script c.args.define ps e kind c.args.codes.now (Err c.mismatch-then-ne.result) c.args.codes.now) (sym c.in-Function.is)
    (arity_other world script set c.args.tables.now c.args.define ps e k v stands size c.row-row.result is c.arity_of.result c.arity_of.ensures c.mismatch-then-ne.result c.mismatch-then-ne.ensures other)

pub returns-in_err-bind_parameters : goal.returns-in_err-bind_parameters
returns-in_err-bind_parameters c script ps e set valid stands size coded =
    let world = c.args.world.now in
    let k = c.in-Function.k in
    let v = subst (IsKind (rows_of world script)) c.in-Function.is valid in
    let is : c.row-row.result ≡ row_at (rows_of world script) k = search rules in
    let same : c.row-row.result.shape ≡ shape.Function c.arity_of.result = search rules in
    let many = arity_same world script set c.args.tables.now c.args.define ps e k v stands size c.row-row.result is c.arity_of.result c.arity_of.ensures same in
    let d0 = desk c.new-scope.result (replicate 64 no_local) in
    let d1 = desk c.bind_parameters.new.scope c.bind_parameters.new.locals in
    let r = c.in_err-bind_parameters.field-0.0 in
    let left : c.from_residual.result ≡ Err r = search rules in
    subst (λ x. DefineAnswers world script c.args.define ps e c.args.kind c.args.codes.now x c.args.codes.now) (sym left)
    (subst (λ kind. DefineAnswers world script c.args.define ps e kind c.args.codes.now (Err r) c.args.codes.now) (sym c.in-Function.is)
    (names_stopped world script set c.args.tables.now c.args.define ps e k v stands size many c.saturating_add.result (omega (arith, c.row-row.type_inv, ap (λ row. row.result) is)) (λ h. omega (arith, c.saturating_add.ensures)) d0 c.new-scope.ensures (search rules) (search rules) r d1 c.in_err-bind_parameters.ensures))

pub returns-in_err-found : goal.returns-in_err-found
returns-in_err-found c script ps e set valid stands size coded =
    let world = c.args.world.now in
    let k = c.in-Function.k in
    let v = subst (IsKind (rows_of world script)) c.in-Function.is valid in
    let is : c.row-row.result ≡ row_at (rows_of world script) k = search rules in
    let same : c.row-row.result.shape ≡ shape.Function c.arity_of.result = search rules in
    let many = arity_same world script set c.args.tables.now c.args.define ps e k v stands size c.row-row.result is c.arity_of.result c.arity_of.ensures same in
    let d0 = desk c.new-scope.result (replicate 64 no_local) in
    let d1 = desk c.bind_parameters.new.scope c.bind_parameters.new.locals in
    let d2 = desk c.expression.new.scope c.expression.new.locals in
    let r = c.in_err-found.field-0.0 in
    let left : c.from_residual-in_err-found.result ≡ Err r = search rules in
    subst (λ x. DefineAnswers world script c.args.define ps e c.args.kind c.args.codes.now x c.expression.new.codes) (sym left)
    (subst (λ kind. DefineAnswers world script c.args.define ps e kind c.args.codes.now (Err r) c.expression.new.codes) (sym c.in-Function.is)
    (body_stopped world script set c.args.tables.now c.args.define ps e k v stands size many c.saturating_add.result (omega (arith, c.row-row.type_inv, ap (λ row. row.result) is)) (λ h. omega (arith, c.saturating_add.ensures)) d0 c.new-scope.ensures (search rules) (search rules) d1 c.in_ok-bind_parameters.field-0 c.in_ok-bind_parameters.ensures c.args.codes.now c.expression.new.codes d2 coded r c.in_err-found.ensures.answers))

pub returns-then-same : goal.returns-then-same
returns-then-same c script ps e set valid stands size coded =
    let world = c.args.world.now in
    let k = c.in-Function.k in
    let v = subst (IsKind (rows_of world script)) c.in-Function.is valid in
    let is : c.row-row.result ≡ row_at (rows_of world script) k = search rules in
    let same : c.row-row.result.shape ≡ shape.Function c.arity_of.result = search rules in
    let many = arity_same world script set c.args.tables.now c.args.define ps e k v stands size c.row-row.result is c.arity_of.result c.arity_of.ensures same in
    let d0 = desk c.new-scope.result (replicate 64 no_local) in
    let d1 = desk c.bind_parameters.new.scope c.bind_parameters.new.locals in
    let d2 = desk c.expression.new.scope c.expression.new.locals in
    let value_is : c.kind.result ≡ kind_at (rows_of world script) (row_at (rows_of world script) k).result = search rules in
    subst (λ kind. DefineAnswers world script c.args.define ps e kind c.args.codes.now (Ok tt) c.expression.new.codes) (sym c.in-Function.is)
    (value_fits world script set c.args.tables.now c.args.define ps e k v stands size many c.saturating_add.result (omega (arith, c.row-row.type_inv, ap (λ row. row.result) is)) (λ h. omega (arith, c.saturating_add.ensures)) d0 c.new-scope.ensures (search rules) (search rules) d1 c.in_ok-bind_parameters.field-0 c.in_ok-bind_parameters.ensures c.args.codes.now c.expression.new.codes d2 coded c.in_ok-found.found c.kind.result value_is c.in_ok-found.ensures.answers
    (λ va vb. sym c.if-same.true ∙ same_in world script set c.rows-rows.result.now c.rows-rows.ensures c.in_ok-found.found c.kind.result c.same.result c.same.ensures va vb))

pub returns : goal.returns
returns c script ps e set valid stands size coded =
    let world = c.args.world.now in
    let k = c.in-Function.k in
    let v = subst (IsKind (rows_of world script)) c.in-Function.is valid in
    let is : c.row-row.result ≡ row_at (rows_of world script) k = search rules in
    let same : c.row-row.result.shape ≡ shape.Function c.arity_of.result = search rules in
    let many = arity_same world script set c.args.tables.now c.args.define ps e k v stands size c.row-row.result is c.arity_of.result c.arity_of.ensures same in
    let d0 = desk c.new-scope.result (replicate 64 no_local) in
    let d1 = desk c.bind_parameters.new.scope c.bind_parameters.new.locals in
    let d2 = desk c.expression.new.scope c.expression.new.locals in
    let value_is : c.kind.result ≡ kind_at (rows_of world script) (row_at (rows_of world script) k).result = search rules in
    subst (λ kind. DefineAnswers world script c.args.define ps e kind c.args.codes.now (Err c.mismatch-2.result) c.expression.new.codes) (sym c.in-Function.is)
    (value_other world script set c.args.tables.now c.args.define ps e k v stands size many c.saturating_add.result (omega (arith, c.row-row.type_inv, ap (λ row. row.result) is)) (λ h. omega (arith, c.saturating_add.ensures)) d0 c.new-scope.ensures (search rules) (search rules) d1 c.in_ok-bind_parameters.field-0 c.in_ok-bind_parameters.ensures c.args.codes.now c.expression.new.codes d2 coded c.in_ok-found.found c.kind.result value_is c.in_ok-found.ensures.answers c.mismatch-2.result c.mismatch-2.ensures
    (λ va vb. sym c.if-same.false ∙ same_in world script set c.rows-rows.result.now c.rows-rows.ensures c.in_ok-found.found c.kind.result c.same.result c.same.ensures va vb))
