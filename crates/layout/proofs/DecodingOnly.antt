-- What stands in a text, a node list and tables is one tree at most.
use Rattle.std.proofs.Common.{◌≡◌, ℕ, ◌<◌, List, take, drop, sym, refl, ap, ◌∙◌, subst, arith}
use Rattle.text.specs.Tokens.{lexeme}
use Rattle.text.specs.declared.token.TokenKind.TheVariants.{Symbol}
use Rattle.grammar.specs.Grammar.{PatternOf}
use Rattle.grammar.specs.Reading.{ident, unquoted}
use Rattle.grammar.specs.Trees as tree
use Rattle.grammar.specs.Trees.{Ident, TypeExpr, TypeExprs, Pattern, Expr, Exprs, Bindings, Branches, Script}
use Rattle.grammar.proofs.GrammarDefinitions.{one_constructor_law}
use Rattle.grammar.proofs.GrammarOnly.{pattern_only}
use Rattle.grammar.proofs.StreamLaws.{one_form}
use Rattle.layout.specs.Decoding.{Code, c_integer, c_symbol, c_boolean, c_unit, c_name, c_if, c_begin, c_let, c_case, c_dup, c_apply, Codes, c_none, c_more, Binds, c_body, c_binding, Arms, c_last, c_branch, TypeCode, t_int, t_bool, t_sym, t_unit, t_datatype, t_function, TypeCodes, t_result, t_parameter, TypesStand, t_none, t_more}
use Rattle.layout.specs.Scripts.{NamesStand, n_none, n_more, ConstructorStands, ConstructorsStand, k_none, k_more, DefinitionStands, d_datatype, d_annotation, d_define, d_val, DefinitionsStand, d_none, d_more}
use Rattle.layout.specs.Spelling.{Spells, Quotes, Shows}
use Rattle.layout.specs.declared.definition.Constructor.{Constructor}
use Rattle.layout.specs.declared.definition.Definition.{Definition}
use Rattle.layout.specs.declared.node.Node.{Node}
use Rattle.layout.specs.declared.node.NodeForm.{NodeForm}
use Rattle.layout.specs.declared.tables.Tables.{Tables}
use Rattle.layout.specs.declared.type_node.TypeForm.{TypeForm}
use Rattle.layout.specs.declared.type_node.TypeNode.{TypeNode}
use Rattle.layout.specs.declared.word.Word.{Word}

-- an end that is reached is not still to come
ahead : {X : Type 0} {i j : ℕ} → i ≡ j → i < j → X
ahead e h = absurd (omega arith)

module _ (text : List ℕ) where
  pub spells_only : {w : Word} {x y : Ident} → Spells text w x → Spells text w y → x ≡ y
  spells_only {w} {x} {y} a b =
      let p : x.place ≡ y.place = sym a.place_is ∙ b.place_is in
      let q : x.bytes ≡ y.bytes = sym a.bytes_are ∙ b.bytes_are in
      ap (λ p. ident p x.bytes) p ∙ ap (ident y.place) q

  pub quotes_only : {p : ℕ} {w v : List ℕ} → Quotes text p w → Quotes text p v → w ≡ v
  quotes_only {p} a b =
      let f = a.follows in
      let g = b.follows in
      let z : lexeme Symbol p a.token ≡ lexeme Symbol p b.token = cc in
      a.between ∙ ap unquoted (ap (λ t. t.bytes) z) ∙ sym b.between

  pub shows_only : {p : ℕ} {x y : Pattern} → Shows text p x → Shows text p y → x ≡ y
  shows_only {p} {x} {y} a b =
      let f = one_form a.form b.form a.rest b.rest a.atoms b.atoms (sym a.follows ∙ b.follows) in
      pattern_only (subst (λ s. PatternOf s x) f.0 a.derived) b.derived

  -- Expressions: whatever numbers symbols have.
  module _ (number other : List ℕ → ℕ) (ns : List Node) where
    mutual
      pub code_only : {f : NodeForm} {d e : Expr} {i : ℕ} → Code text number ns f d i → Code text other ns f e i → d ≡ e
      code_only (c_integer {z = z} p q) (c_integer r s) = ap (λ p. tree.integer p z) (sym p ∙ r)
      code_only (c_symbol {p = p} {w = w} a b c d) (c_symbol {p = p'} {w = v} a' b' c' d') =
          let ep : p ≡ p' = sym a ∙ a' in
          ap (λ p. tree.symbol p w) ep ∙ ap (tree.symbol p') (quotes_only (subst (λ p. Quotes text p w) ep d) d')
      code_only (c_boolean {b = b} p q) (c_boolean r s) = ap (λ p. tree.boolean p b) (sym p ∙ r)
      code_only (c_unit p q) (c_unit r s) = ap tree.unit (sym p ∙ r)
      code_only (c_name {n = n} {p = p} {w = w} a b c) (c_name {p = p'} {w = v} a' b' c') =
          let ep : p ≡ p' = sym a ∙ a' in
          let same : w ≡ v = sym c.bytes_are ∙ ap (λ p. take n (drop p text)) ep ∙ c'.bytes_are in
          ap (λ p. tree.name p w) ep ∙ ap (tree.name p') same
      code_only (c_if p a b c q) (c_if p' a' b' c' q') = cc (code_only a a', code_only b b', code_only c c')
      code_only (c_begin p a b) (c_begin p' a' b') = cc (code_only a a', codes_only b b')
      code_only (c_let p a) (c_let p' a') = let h = binds_only a a' in cc (h.0, h.1)
      code_only (c_case p a b) (c_case p' a' b') = cc (code_only a a', arms_only b b')
      code_only (c_dup p q s) (c_dup p' q' s') = cc (spells_only s s')
      code_only (c_apply p a b) (c_apply p' a' b') = cc (code_only a a', codes_only b b')

      codes_only : {d e : Exprs} {i j : ℕ} → Codes text number ns d i j → Codes text other ns e i j → d ≡ e
      codes_only (c_none e) (c_none f) = refl
      codes_only (c_none e) (c_more h a b) = ahead e h
      codes_only (c_more h a b) (c_none e) = ahead e h
      codes_only (c_more h a b) (c_more h' a' b') = cc (code_only a a', codes_only b b')

      binds_only : {f : NodeForm} {bs cs : Bindings} {d e : Expr} {i j : ℕ} → Binds text number ns f bs d i j → Binds text other ns f cs e i j → (bs ≡ cs) × (d ≡ e)
      binds_only (c_body a p) (c_body a' p') = (refl, code_only a a')
      binds_only (c_body a p) (c_binding q s b r more) = elim a [ ]
      binds_only (c_binding q s b r more) (c_body a p) = elim a [ ]
      binds_only (c_binding p s a q more) (c_binding p' s' a' q' more') =
          let h = binds_only more more' in
          (cc (spells_only s s', code_only a a', h.0), h.1)

      arms_only : {f : NodeForm} {bs cs : Branches} {i j : ℕ} → Arms text number ns f bs i j → Arms text other ns f cs i j → bs ≡ cs
      arms_only (c_last p s a q e) (c_last p' s' a' q' e') = cc (shows_only s s', code_only a a')
      arms_only (c_last p s a q e) (c_branch p' s' a' q' h more) = ahead e h
      arms_only (c_branch p s a q h more) (c_last p' s' a' q' e) = ahead e h
      arms_only (c_branch p s a q h more) (c_branch p' s' a' q' h' more') = cc (shows_only s s', code_only a a', arms_only more more')

  -- Types.
  module _ (ts : List TypeNode) where
    mutual
      pub type_only : {f : TypeForm} {t u : TypeExpr} {i : ℕ} → TypeCode text ts f t i → TypeCode text ts f u i → t ≡ u
      type_only (t_int p q) (t_int p' q') = cc
      type_only (t_bool p q) (t_bool p' q') = cc
      type_only (t_sym p q) (t_sym p' q') = cc
      type_only (t_unit p q) (t_unit p' q') = cc
      type_only (t_datatype p s) (t_datatype p' s') = ap tree.datatype (spells_only s s')
      type_only (t_function p a) (t_function p' a') = let h = parameters_only a a' in cc (h.0, h.1)

      parameters_only : {us vs : TypeExprs} {t u : TypeExpr} {i j : ℕ} → TypeCodes text ts us t i j → TypeCodes text ts vs u i j → (us ≡ vs) × (t ≡ u)
      parameters_only (t_result a e) (t_result a' e') = (refl, type_only a a')
      parameters_only (t_result a e) (t_parameter b h more) = ahead e h
      parameters_only (t_parameter b h more) (t_result a e) = ahead e h
      parameters_only (t_parameter a h more) (t_parameter a' h' more') = let k = parameters_only more more' in (cc (type_only a a', k.0), k.1)

    pub types_only : {us vs : TypeExprs} {i j : ℕ} → TypesStand text ts us i j → TypesStand text ts vs i j → us ≡ vs
    types_only (t_none e) (t_none f) = refl
    types_only (t_none e) (t_more h a b) = ahead e h
    types_only (t_more h a b) (t_none e) = ahead e h
    types_only (t_more h a b) (t_more h' a' b') = cc (type_only a a', types_only b b')

  pub names_only : {words : List Word} {xs ys : List Ident} {i j : ℕ} → NamesStand text words xs i j → NamesStand text words ys i j → xs ≡ ys
  names_only (n_none e) (n_none f) = refl
  names_only (n_none e) (n_more h a b) = ahead e h
  names_only (n_more h a b) (n_none e) = ahead e h
  names_only (n_more h a b) (n_more h' a' b') = cc (spells_only a a', names_only b b')

  -- Definitions.
  module _ (number other : List ℕ → ℕ) (ns : List Node) (tables : Tables) where
    constructor_only : {k : ℕ} {entry : Constructor} {c d : tree.Constructor} → ConstructorStands text number ns tables k entry c → ConstructorStands text other ns tables k entry d → c ≡ d
    constructor_only {k} {entry} {c} {d} a b = one_constructor_law c d (sym a.place_is ∙ b.place_is) (spells_only a.named b.named) (types_only tables.types a.typed b.typed)

    constructors_only : {k : ℕ} {cs ds : List tree.Constructor} {i j : ℕ} → ConstructorsStand text number ns tables k cs i j → ConstructorsStand text other ns tables k ds i j → cs ≡ ds
    constructors_only (k_none e) (k_none f) = refl
    constructors_only (k_none e) (k_more h a b) = ahead e h
    constructors_only (k_more h a b) (k_none e) = ahead e h
    constructors_only (k_more h a b) (k_more h' a' b') = cc (constructor_only a a', constructors_only b b')

    definition_only : {k : ℕ} {entry : Definition} {c d : tree.Definition} → DefinitionStands text number ns tables k entry c → DefinitionStands text other ns tables k entry d → c ≡ d
    definition_only (d_datatype a b) (d_datatype a' b') = cc (spells_only a a', constructors_only b b')
    definition_only (d_annotation a b) (d_annotation a' b') = cc (spells_only a a', type_only tables.types b b')
    definition_only (d_define a b c) (d_define a' b' c') = cc (spells_only a a', names_only b b', code_only number other ns c c')
    definition_only (d_val a b) (d_val a' b') = cc (spells_only a a', code_only number other ns b b')

    pub definitions_only : {cs ds : Script} {i j : ℕ} → DefinitionsStand text number ns tables cs i j → DefinitionsStand text other ns tables ds i j → cs ≡ ds
    definitions_only (d_none e) (d_none f) = refl
    definitions_only (d_none e) (d_more h a b) = ahead e h
    definitions_only (d_more h a b) (d_none e) = ahead e h
    definitions_only (d_more h a b) (d_more h' a' b') = cc (definition_only a a', definitions_only b b')
