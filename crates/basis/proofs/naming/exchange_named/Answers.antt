use Rattle.std.proofs.Common.{rules, ◌≡◌, codes, refl, arith}
use Rattle.std.proofs.lemmas.Slice.Eq.{text_from_reads}
use Rattle.basis.proofs.naming.exchange_named.Goals as goal

pub returns-in-112 : goal.returns-in-112
returns-in-112 c = let e : c.args.word.now ≡ codes "print-int" = text_from_reads c.args.word.now (codes "print-int") (omega arith) (search rules) in rw e refl

pub returns-in-112-3 : goal.returns-in-112-3
returns-in-112-3 c = let e : c.args.word.now ≡ codes "print-sym" = text_from_reads c.args.word.now (codes "print-sym") (omega arith) (search rules) in rw e refl

pub returns-in-112-2 : goal.returns-in-112-2
returns-in-112-2 c = let e : c.args.word.now ≡ codes "print-bool" = text_from_reads c.args.word.now (codes "print-bool") (omega arith) (search rules) in rw e refl

pub returns-in-112-4 : goal.returns-in-112-4
returns-in-112-4 c = let e : c.args.word.now ≡ codes "print-unit" = text_from_reads c.args.word.now (codes "print-unit") (omega arith) (search rules) in rw e refl

pub returns-in-112-6 : goal.returns-in-112-6
returns-in-112-6 c = let e : c.args.word.now ≡ codes "print-ascii" = text_from_reads c.args.word.now (codes "print-ascii") (omega arith) (search rules) in rw e refl

pub returns-in-112-5 : goal.returns-in-112-5
returns-in-112-5 c = let e : c.args.word.now ≡ codes "print-newline" = text_from_reads c.args.word.now (codes "print-newline") (omega arith) (search rules) in rw e refl
