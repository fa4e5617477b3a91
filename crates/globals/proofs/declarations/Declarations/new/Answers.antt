use Rattle.std.proofs.Common.{refl}
use Rattle.globals.proofs.declarations.Declarations.new.Goals as goal

pub returns : goal.returns
returns c = λ text. record {
  bound = c.new.ensures.index text;
  bound_names_are = c.new.ensures.empty text;
  meanings = refl;
  annotations = c.new-2.ensures.index text;
  annotations_are = c.new-2.ensures.empty text;
  as_many = refl;
  roots = refl;
  datatypes = c.new-3.ensures.index text;
  datatypes_are = c.new-3.ensures.empty text;
  variants = refl;
  functions = refl;
  vals = refl;
}
