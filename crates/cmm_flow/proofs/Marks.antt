-- Where marks lead while statements are laid from the last one to the first: the first one that has a mark is laid last, and counts.
use Rattle.std.proofs.Common.{◌≡◌, ℕ, Bool, true, false, Option, Some, None, List, [], ◌∷◌, ◌++◌, append-nil, sym, ◌∙◌, subst}
use Rattle.cmm_program.specs.declared.procedure.Proc.{Proc}
use Rattle.cmm_program.specs.declared.statement.Form.{Form}
use Rattle.cmm_program.specs.declared.statement.Form.TheVariants.{Span}
use Rattle.cmm_program.specs.declared.statement.Statement.{Statement}
use Rattle.cmm_program.specs.Bodies.{Mark, after_inside, first_of_two, follow, is_mark, outward}
use Rattle.cmm_graph.specs.declared.number.NodeId.{NodeId}
use Rattle.cmm_graph.specs.declared.node.Node.{Node}
use Rattle.cmm_flow.specs.Statements.{ListCode}
use Rattle.cmm_flow.specs.inside.Marks.{FrontCode, LeadsBehind, LeadsBehindForm, after_list}

module _ (q : Proc) (nodes : List Node) (label_node : ℕ → NodeId) where
  abbrev Front : List Statement → NodeId → NodeId → Type 0
  Front = FrontCode q nodes label_node

  abbrev Behind : Option (List Statement) → NodeId → NodeId → NodeId → Type 0
  Behind = LeadsBehind q nodes label_node

  pub front_joined : (xs ys : List Statement) (n m k : NodeId) → Front xs n m → Front ys m k → Front (xs ++ ys) n k
  front_joined [] ys n m k same later = subst (λ n. Front ys n k) (sym same) later
  front_joined (x ∷ xs) ys n m k code later = (code.0, code.1, front_joined xs ys code.0 m k code.2 later)

  pub front_list : (xs rest : List Statement) (n k : NodeId) → Front xs n k → ListCode q nodes label_node rest k → ListCode q nodes label_node (xs ++ rest) n
  front_list [] rest n k same later = subst (λ n. ListCode q nodes label_node rest n) (sym same) later
  front_list (x ∷ xs) rest n k code later = (code.0, code.1, front_list xs rest code.0 k code.2 later)

  -- of two blocks in front of the same node the second is laid first
  pub first_leads : (first second : Option (List Statement)) (k before between after : NodeId) → Behind second k before between → Behind first k between after →
      Behind (first_of_two first second) k before after
  first_leads (Some inner) second k before between after later code = code
  first_leads None (Some inner) k before between after later same = subst (λ n. Front inner n k) (sym same) later
  first_leads None None k before between after later same = same ∙ later

  -- what is inside a statement goes on with what is behind the statement
  outward_leads : (inside : Option (List Statement)) (rest : List Statement) (m k before after : NodeId) → Front rest m k →
      Behind inside m before after → Behind (outward inside rest) k before after
  outward_leads (Some inner) rest m k before after code leads = front_joined inner rest after m k leads code
  outward_leads None rest m k before after code same = same

  -- a statement in front of others, which are laid first
  pub list_leads : (mark : Mark) (s : Statement) (rest : List Statement) (m k before between after : NodeId) → Front rest m k →
      Behind (after_list mark rest) k before between → LeadsBehindForm q nodes label_node s.form m mark between after →
      Behind (after_list mark (s ∷ rest)) k before after
  list_leads mark s rest m k before between after code later leads = by (is_mark mark s.form) leads
    where
      by : (b : Bool) → elim b as (λ _. Type 0) [ true ↦ after ≡ m | false ↦ Behind (after_inside mark s.form) m between after ] →
          Behind (elim b [ true ↦ Some rest | false ↦ first_of_two (outward (after_inside mark s.form) rest) (after_list mark rest) ]) k before after
      by true same = subst (λ n. Front rest n k) (sym same) code
      by false inside =
          first_leads (outward (after_inside mark s.form) rest) (after_list mark rest) k before between after later
          (outward_leads (after_inside mark s.form) rest m k between after code inside)

  -- a statement that is no mark itself
  pub form_leads : (mark : Mark) (form : Form) (k before after : NodeId) → is_mark mark form ≡ false → Behind (after_inside mark form) k before after →
      LeadsBehindForm q nodes label_node form k mark before after
  form_leads mark form k before after other leads =
      subst (λ b. elim b as (λ _. Type 0) [ true ↦ after ≡ k | false ↦ Behind (after_inside mark form) k before after ]) (sym other) leads

  -- once the whole body is laid in front of its end, where each mark first led to the end
  pub follow_leads : (mark : Mark) (stop after : NodeId) → ListCode q nodes label_node [] stop → Behind (after_inside mark (Span q.body)) stop stop after →
      ListCode q nodes label_node (follow q mark) after
  follow_leads mark stop after end leads = by (after_inside mark (Span q.body)) leads
    where
      by : (o : Option (List Statement)) → Behind o stop stop after → ListCode q nodes label_node (elim o [ Some rest ↦ rest | None ↦ [] ]) after
      by (Some rest) code = subst (λ rest. ListCode q nodes label_node rest after) (append-nil rest) (front_list rest [] after stop code end)
      by None same = subst (λ n. ListCode q nodes label_node [] n) (sym same) end
