-- Values that a run holds are dropped, one after another.
use Rattle.std.proofs.Common.{◌≡◌, ℕ, ◌+◌, ◌≤◌, false, List, [], ◌∷◌, ◌++◌, map, Some, None, sym, refl, ap, ◌∙◌, subst, arith}
use Rattle.cells.specs.Meaning.{Cells}
use Rattle.cells.specs.declared.values.Value.{Value}
use Rattle.data.specs.Taking.{Out, out_none, out_plain, out_cell}
use Rattle.data.specs.Standing.{plain_unit}
use Rattle.data.specs.Trees.{Tree, Trees, more, size, sizes}
use Rattle.data.proofs.Moves.{plain_out}
use Rattle.data.proofs.Outs.{join, sizes_join}
use Rattle.machine.specs.Holding.{Slot, values_in, kept, trees_in, capped}
use Rattle.machine.specs.Mirrors.{Mirrors, mirrors}
use Rattle.machine.specs.Waiting.{value_in_hand, handed}
use Rattle.machine.specs.declared.control.Control.{Control as Ahead}
use Rattle.machine.specs.declared.control.Control.TheVariants as ahead
use Rattle.machine.specs.declared.machine.Machine.{Machine}
use Rattle.machine.proofs.Cells.{entries_size}
use Rattle.program.specs.Programs.{Program, program}
use Rattle.rules.proofs.Accounting.{accounts}
use Rattle.rules.specs.Runs.{allowed, account_of}
use Rattle.rules.specs.States.{Control, opened, enter, finished, over, State, control_size, held}
use Rattle.rules.specs.Steps.{Sizes}
use Rattle.run.specs.Closings.{Gives, Frees}
use Rattle.run.specs.Openings.{Opening, Made, asked, sizes_of, run_after}
use Rattle.run.specs.Stands.{Stands, Finished}
use Rattle.run.specs.declared.runs.Run.{Run}
use Rattle.stack.specs.Items.{tops}
use Rattle.run.specs.declared.closing.Dropped.{Dropped}

-- so many cells were given back, and these slots still stand for trees beside the same rest
pub record Dropping (before : Dropped) (ts : Trees) (m₀ : Cells) (now : Dropped) (ss : List Slot) (m : Cells) : Type 0 where
  pub count : ℕ
  pub rest : Trees
  pub gives : Gives before count now
  pub out : Out m (values_in ss) rest m₀
  pub all : count + sizes rest ≡ sizes ts

-- the first of a row of trees
pub record First (ts : Trees) : Type 0 where
  pub tree : Tree
  pub others : Trees
  pub is : ts ≡ more tree others

pub first_of_row : {m m₀ : Cells} {v : Value} {vs : List Value} {ts : Trees} → Out m (v ∷ vs) ts m₀ → First ts
first_of_row (out_plain {t = t} {ts = us} p o) = record { tree = t; others = us; is = refl }
first_of_row (out_cell {fields = fields} {ts = us} r e k o) = record { tree = _; others = us; is = refl }

gives_none : (d : Dropped) → d.given ≤ 18446744073709551615 → Gives d 0 d
gives_none d h = record { given = omega arith; stuck = refl }

pub gives_then : {a b c : Dropped} {n k : ℕ} → Gives a n b → Gives b k c → Gives a (n + k) c
gives_then g h = record { given = omega (arith, g.given, h.given); stuck = h.stuck ∙ g.stuck }

nothing_left : {m m₀ : Cells} {us : Trees} → Out m [] us m₀ → (sizes us ≡ 0) × (m ≡ m₀)
nothing_left out_none = (refl, refl)

module _ {before : Dropped} {ts : Trees} {m₀ : Cells} where
  pub dropping_none : {ss : List Slot} {m : Cells} → before.given ≤ 18446744073709551615 → Out m (values_in ss) ts m₀ → Dropping before ts m₀ before ss m
  dropping_none h o = record { count = 0; rest = ts; gives = gives_none before h; out = o; all = omega arith }

  module _ {now : Dropped} {ss : List Slot} {m : Cells} where
    -- an empty slot leaves
    pub dropping_empty : Dropping before ts m₀ now (None ∷ ss) m → Dropping before ts m₀ now ss m
    dropping_empty d =
        let f = first_of_row d.out in
        let o = plain_out plain_unit (subst (λ ts. Out m _ ts m₀) f.is d.out) in
        let total = ap sizes f.is in
        let unit = ap size o.0 in
        record { count = d.count; rest = f.others; gives = d.gives; out = o.1; all = omega (arith, d.all, total, unit) }

    -- a full one leaves, and its value is dropped
    pub dropping_full : {v : Value} {next : Dropped} {m' : Cells} → (d : Dropping before ts m₀ now (Some v ∷ ss) m)
        → ((vs : List Value) (t : Tree) (us : Trees) → Out m (v ∷ vs) (more t us) m₀ → Gives now (size t) next × Out m' vs us m₀) → Dropping before ts m₀ next ss m'
    dropping_full d law =
        let f = first_of_row d.out in
        let h = law _ f.tree f.others (subst (λ ts. Out m _ ts m₀) f.is d.out) in
        let total = ap sizes f.is in
        record { count = d.count + size f.tree; rest = f.others; gives = gives_then d.gives h.0; out = h.1; all = omega (arith, d.all, total) }

  pub dropping_all : {now : Dropped} {ss : List Slot} {m : Cells} → ss ≡ [] → Dropping before ts m₀ now ss m → Frees before ts m₀ now m
  dropping_all {now} {m = m} e d =
      let h = nothing_left (subst (λ ss. Out m (values_in ss) d.rest m₀) e d.out) in
      let n : d.count ≡ sizes ts = omega (arith, d.all, h.0) in
      record { gives = subst (λ n. Gives before n now) n d.gives; cells = h.1 }

-- a value is dropped before others
pub frees_first : {before first now : Dropped} {ts : Trees} {m₀ m m' m'' : Cells} {v : Value} {vs : List Value} → Out m (v ∷ vs) ts m₀
    → ((vs : List Value) (t : Tree) (us : Trees) → Out m (v ∷ vs) (more t us) m₀ → Gives before (size t) first × Out m' vs us m₀)
    → ((us : Trees) → Out m' vs us m₀ → Frees first us m₀ now m'') → Frees before ts m₀ now m''
frees_first {before} {now = now} {ts = ts} {m₀ = m₀} {m = m} {v = v} {vs = vs} o law rest =
    let f = first_of_row o in
    let h = law vs f.tree f.others (subst (λ ts. Out m (v ∷ vs) ts m₀) f.is o) in
    let r = rest f.others h.1 in
    let total : size f.tree + sizes f.others ≡ sizes ts = sym (ap sizes f.is) in
    record { gives = subst (λ n. Gives before n now) total (gives_then h.0 r.gives); cells = r.cells }

-- nothing is in hand but a finished value
pub none_in_hand : (k : Ahead) → ((v : Value) → k ≡ ahead.Finished v → ⊥) → value_in_hand k ≡ []
none_in_hand ahead.Opened n = refl
none_in_hand (ahead.Enter i) n = refl
none_in_hand (ahead.Finished v) n = absurd (n v refl)
none_in_hand ahead.Over n = refl

-- what a machine that mirrors a state holds
record Holds (s : State) (r : Machine) (m m₀ : Cells) : Type 0 where
  row : Trees
  out : Out m (value_in_hand r.control ++ values_in (tops r.slots)) row m₀
  size_is : sizes row ≡ held s
  taken : r.taken ≡ capped (account_of s).taken
  given : r.given ≡ capped (account_of s).given

-- the value just finished
pub handed_size : (c : Control) → sizes (handed c) ≡ control_size c
handed_size opened = refl
handed_size (enter e) = refl
handed_size (finished t) = omega arith
handed_size over = refl

holds : {P : Program} {Z : Sizes} {m₀ m : Cells} {s : State} {r : Machine} → Mirrors P Z m₀ s r m → Holds s r m m₀
holds (mirrors {K = K} {env = env} {c = c} {a = a} R N) = record {
  row = join (handed c) (trees_in (env ++ kept K));
  out = R.data_held;
  size_is = omega (arith, sizes_join (handed c) (trees_in (env ++ kept K)), entries_size env K, handed_size c);
  taken = R.taken;
  given = R.given;
}

-- once all that a run holds is dropped
pub finished_by : (o : Opening) (h : List Made) {run : Run} {m m' : Cells} (before : ℕ) (dropped : Dropped) → Stands o h run m → before ≡ run.machine.given
    → ((m₀ : Cells) (ts : Trees) → Out m (value_in_hand run.machine.control ++ values_in (tops run.machine.slots)) ts m₀ → Frees (record { given = before; stuck = false }) ts m₀ dropped m')
    → Finished o h (record { steps = run.steps; taken = run.machine.taken; given_back = dropped.given; stuck = dropped.stuck }) m'
finished_by o h {run} before dropped S same frees =
    let r = run_after o h in
    let H = holds S.inside.mirrored in
    let F = frees o.cells H.row H.out in
    let balanced = accounts (program o.script) (sizes_of o) (allowed o.allowance) o.input (map asked h) in
    let few = S.inside.few in
    let within = S.inside.within in
    let small : (account_of r.state).taken ≤ 65535000000000 = omega (arith, few, within) in
    let taken : run.machine.taken ≡ (account_of r.state).taken = omega (arith, H.taken, small) in
    let given : dropped.given ≡ (account_of r.state).given + held r.state = omega (arith, F.gives.given, same, H.given, H.size_is, balanced.account, small) in
    record {
      cells = F.cells;
      steps = S.inside.steps;
      taken = taken;
      given = given;
      equal = omega (arith, taken, given, balanced.account);
      sound = F.gives.stuck;
    }
