-- What a list is as an expression, by its head and its number of parts alone; none where it is no expression.
use Rattle.std.specs.Prelude.{ℕ, cond, Some, None, Option, ◌==◌, nat_lt}
use Rattle.text.specs.declared.keyword.Keyword.{Keyword}
use Rattle.text.specs.declared.keyword.Keyword.TheVariants as keyword
use Rattle.forms.specs.declared.form.FormKind.{FormKind}
use Rattle.forms.specs.declared.form.FormKind.TheVariants as form

abbrev pub kind_headed : Keyword → ℕ → Option FormKind
kind_headed keyword.If n = cond (n == 4) (Some form.If) None
kind_headed keyword.Begin n = cond (nat_lt 1 n) (Some form.Begin) None
kind_headed keyword.Let n = cond (n == 3) (Some form.Let) None
kind_headed keyword.Case n = cond (nat_lt 2 n) (Some form.Case) None
kind_headed keyword.Dup n = cond (n == 2) (Some form.Dup) None
kind_headed keyword.Unit n = Some form.Apply
kind_headed keyword.True n = Some form.Apply
kind_headed keyword.False n = Some form.Apply
kind_headed keyword.Colon n = None
kind_headed keyword.Val n = None
kind_headed keyword.Define n = None
kind_headed keyword.Datatype n = None
kind_headed keyword.Use n = None
kind_headed keyword.Arrow n = None
kind_headed keyword.Int n = None
kind_headed keyword.Bool n = None
kind_headed keyword.Sym n = None
kind_headed keyword.Wildcard n = None

abbrev pub form_kind : Option Keyword → ℕ → Option FormKind
form_kind (Some k) n = kind_headed k n
form_kind None n = cond (nat_lt 0 n) (Some form.Apply) None
