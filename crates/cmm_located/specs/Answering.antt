-- The client over locations. It is required of activations that the walk of the stack shows, as that of the C-- machine is of its store; what it
-- changes and where it resumes is done to places (C-- Language Specification 2.0, the run-time interface).
use Rattle.std.specs.Prelude.{ℕ, suc, List, [], ◌++◌, map, length, slice_get, Option, Some, None}
use Rattle.std.specs.List.{range_with_len}
use Rattle.cmm_program.specs.Asking.{Askable, Exit}
use Rattle.cmm_program.specs.Client as client
use Rattle.cmm_program.specs.Client.{chain_behind, cut_number, located_shown, with_data, with_log}
use Rattle.cmm_program.specs.Commands as command
use Rattle.cmm_program.specs.Commands.{Answer, answer_to}
use Rattle.cmm_program.specs.Control.{over}
use Rattle.cmm_program.specs.Errors.{WrongAlternates, with_some}
use Rattle.cmm_program.specs.Exits as exits
use Rattle.cmm_program.specs.Exits.{Landing, Called, Instead, Back, Resumed}
use Rattle.cmm_program.specs.Frames.{procedure_at, with_site, without}
use Rattle.cmm_program.specs.State.{Setting, Activation, Store, Running, Ended, Stopped, Wrong}
use Rattle.cmm_graph.specs.declared.number.NodeId.{NodeId}
use Rattle.cmm_chain.specs.Contents.{Content, Number, Unknown}
use Rattle.cmm_chain.specs.Running.{Holdings, cut_at}
use Rattle.cmm_chain.specs.Walks.{Element, put_at, shown_at, spot_of, unwound, walk_from}
use Rattle.cmm_located.specs.Compiled.{Compiled, Located, site_exits, landing_in}

-- a number, or 0 where none is known
abbrev pub number_shown : Content → ℕ
number_shown (Number n) = n
number_shown _ = 0

abbrev pub values_brought : Landing → List ℕ
values_brought (Called site q values) = values
values_brought (Instead q values) = values
values_brought (Back values) = values
values_brought (Resumed k values) = values

-- ---- what the locals of an activation are held in once the run goes on there

-- A return is to the youngest, an unwinding gives the registers back as the activation had them, and a cut restores none. Of the return address
-- nothing is known behind an unwinding or a cut.
abbrev pub returned_to : Element → Holdings → Holdings
returned_to e h = h

abbrev pub unwound_to : Element → Holdings → Holdings
unwound_to e h = let u = unwound e.mark h in record u { point = record u.point { back = Unknown } }

abbrev pub cut_to : Element → Holdings → Holdings
cut_to e h = cut_at e.mark.at h

abbrev pub logged_as : List ℕ → Located → Located
logged_as log at = record at { store = with_log log at.store }

abbrev pub stopped : Located → Located
stopped at = record at { store = over (Ended Stopped) at.store }

module _ (s : Setting) (c : Compiled) where
  -- ---- what the walk shows

  abbrev pub listed : Located → List Element
  listed at = walk_from c.plan at.holdings (length at.store.activations)

  -- the activation of an element, with the values of its variables where they are
  abbrev pub activation_of : Located → Element → Activation
  activation_of at e = record {
    procedure = e.procedure;
    variables = elim (procedure_at s e.procedure) [
      | Some p ↦ map (λ n. number_shown (shown_at at.holdings (spot_of e.mark (c.plan.place e.procedure n)))) (range_with_len 0 (length p.vars))
      | None ↦ []
    ];
    site = Some e.site;
  }

  -- the store as the client sees it
  abbrev pub shown : Located → Store
  shown at = record at.store { activations = map (activation_of at) (listed at) }

  -- ---- what a command changes

  -- where a variable is set, its place is
  abbrev pub set_number : ℕ → ℕ → ℕ → Located → Located
  set_number cursor n value at =
      elim (with_some (slice_get (listed at) cursor) (λ e. spot_of e.mark (c.plan.place e.procedure n))) [
        | Some spot ↦ record at { holdings = put_at spot (Number value) at.holdings }
        | None ↦ at
      ]

  abbrev pub with_bytes : Located → List ℕ → ℕ → List ℕ → Option Located
  with_bytes at name offset bytes = with_some (with_data s at.store name offset bytes) (λ store. Some record at { store = store })

  -- ---- how the run goes on

  abbrev pub landing_node : ℕ → ℕ → Landing → Option NodeId
  landing_node q site (Back values) = with_some (site_exits c.graphs q site) (λ exits. exits.normal)
  landing_node q site (Resumed k values) = landing_in c.graphs q k
  landing_node q site _ = None

  abbrev pub no_landing : Located → Located
  no_landing at = record at { store = over (Wrong WrongAlternates) at.store }

  abbrev pub come_back : (Element → Holdings → Holdings) → ℕ → Landing → Element → Located → Located
  come_back come gone landing e at = elim (landing_node e.procedure e.site landing) [
    | Some n ↦ record {
      store = record (without gone at.store) { activations = with_site None (without gone at.store).activations; status = Running };
      holdings = come e at.holdings;
      procedure = e.procedure;
      node = n;
      carried = values_brought landing;
    }
    | None ↦ no_landing at
  ]

  -- once n of the youngest activations are gone
  abbrev pub resumed_by : (Element → Holdings → Holdings) → ℕ → Landing → Located → Located
  resumed_by come gone landing at = elim (slice_get (listed at) gone) [ Some e ↦ come_back come gone landing e at | None ↦ no_landing at ]

  abbrev pub exit_over : (Element → Holdings → Holdings) → Located → client.Located → Option exits.Exit → Option (Exit Located)
  exit_over come at a exit = with_some exit (λ e.
      Some record { widths = e.widths; resumed = λ values. resumed_by come a.younger (e.landing values) at })

  -- ---- the client's answer

  -- the located program as one that can be asked
  abbrev pub places_askable : Askable client.Located Located Located
  places_askable = record {
    chain = λ at. chain_behind s 0 (shown at);
    running = λ at. chain_behind s 0 (shown at);
    older = λ at a. chain_behind s (suc a.younger) (shown at);
    shown = λ at. located_shown s (shown at);
    with_variable = λ at a n value. set_number a.younger n value at;
    with_data = with_bytes;
    return_exit = λ at a n. exit_over returned_to at a (exits.return_exit a.procedure a.site n);
    unwind_exit = λ at a n. exit_over unwound_to at a (exits.unwind_exit a.procedure a.site n);
    cut_exit = λ at a value. with_some (cut_number s (shown at).activations a value) (λ k. exit_over cut_to at a (exits.continuation_exit a.procedure k));
  }

  -- how the run goes on, with this log before the answer's lines; the chain that the walk lists never breaks
  abbrev pub left_at : List ℕ → Answer Located Located → Located
  left_at log answer = logged_as (log ++ answer.text) (elim answer.left [
    | command.Running after ↦ after
    | command.Stopped at ↦ stopped at
    | command.Torn b at ↦ stopped at
  ])

  -- the client's answer to a yield of these values
  abbrev pub answered_at : List ℕ → Located → Located
  answered_at yielded at = left_at at.store.log (answer_to places_askable s.script yielded at)
