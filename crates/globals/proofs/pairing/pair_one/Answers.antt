use Rattle.std.proofs.Common.{◌≡◌, Err, sym, subst, rules}
use Rattle.globals.specs.Lying.{DefinitionLies}
use Rattle.globals.specs.Pairs.{PairsOne}
use Rattle.program.specs.Programs.{program}
use Rattle.type_rows.specs.TypeExprs.{types_listed, meaning}
use Rattle.globals.proofs.PairLaws.{pair_annotation, pair_annotation_refused, pair_define, pair_define_refused, pair_other}
use Rattle.globals.proofs.pairing.pair_one.Goals as goal

pub returns-in_ok-need_define-in-Annotation-clause-pairs : goal.returns-in_ok-need_define-in-Annotation-clause-pairs
returns-in_ok-need_define-in-Annotation-clause-pairs c = λ tables script k d n has few lies.
    let P = program script in
    pair_annotation c.args.text.now tables P (meaning P (types_listed script)) c.args.rows.now.rows c.args.defines c.args.types.now.types k d c.in-Annotation.annotation (subst (DefinitionLies c.args.text.now tables k d) c.in-Annotation.is lies)
    (λ x spelt. sym (c.in_ok-need_define-in-Annotation.ensures script x n spelt))

pub returns-in_err-need_define-in-Annotation-clause-pairs : goal.returns-in_err-need_define-in-Annotation-clause-pairs
returns-in_err-need_define-in-Annotation-clause-pairs c = λ tables script k d n has few lies.
    let P = program script in
    let r = c.in_err-need_define-in-Annotation.field-0.0 in
    let is : c.from_residual.result ≡ Err r = search rules in
    subst (λ x. PairsOne P (meaning P (types_listed script)) c.args.rows.now.rows c.args.defines d c.args.types.now.types x c.args.types.now.types) (sym is)
    (pair_annotation_refused c.args.text.now tables P (meaning P (types_listed script)) c.args.rows.now.rows c.args.defines c.args.types.now.types k d c.in-Annotation.annotation r (subst (DefinitionLies c.args.text.now tables k d) c.in-Annotation.is lies)
    (λ x spelt. sym (c.in_err-need_define-in-Annotation.ensures script x n spelt)))

pub returns-in_ok-kind-in-Define-clause-pairs : goal.returns-in_ok-kind-in-Define-clause-pairs
returns-in_ok-kind-in-Define-clause-pairs c = λ tables script k d n has few lies.
    let P = program script in
    pair_define c.args.text.now tables P (meaning P (types_listed script)) c.args.rows.now.rows c.args.defines c.args.types.now.types k d c.in-Define.define c.in_ok-kind-in-Define.kind c.put.new.xs (subst (DefinitionLies c.args.text.now tables k d) c.in-Define.is lies)
    c.put.ensures.written (λ x spelt. c.in_ok-kind-in-Define.ensures script x n has few spelt)

pub returns-in_err-kind-in-Define-clause-pairs : goal.returns-in_err-kind-in-Define-clause-pairs
returns-in_err-kind-in-Define-clause-pairs c = λ tables script k d n has few lies.
    let P = program script in
    let r = c.in_err-kind-in-Define.field-0.0 in
    let is : c.from_residual-in_err-kind-in-Define.result ≡ Err r = search rules in
    subst (λ x. PairsOne P (meaning P (types_listed script)) c.args.rows.now.rows c.args.defines d c.args.types.now.types x c.args.types.now.types) (sym is)
    (pair_define_refused c.args.text.now tables P (meaning P (types_listed script)) c.args.rows.now.rows c.args.defines c.args.types.now.types k d c.in-Define.define r (subst (DefinitionLies c.args.text.now tables k d) c.in-Define.is lies)
    (λ x spelt. c.in_err-kind-in-Define.ensures script x n has few spelt))

pub returns-in_default-clause-pairs : goal.returns-in_default-clause-pairs
returns-in_default-clause-pairs c = λ tables script k d n has few lies.
    let P = program script in
    pair_other c.args.text.now tables P (meaning P (types_listed script)) c.args.rows.now.rows c.args.defines c.args.types.now.types k d c.args.definition lies c.in_default.not-Annotation c.in_default.not-Define
