-- The two parts of a decision, as the code has them: a standing with places in the bytes of an image, where the definition has rows. Assumes nothing.
use Rattle.std.specs.Prelude.{◌≡◌, List, ℕ, ◌-◌, take, drop}
use Rattle.std.specs.Prelude.{Ok, Err}
use Rattle.answers.specs.declared.Cause.TheVariants.{NoSuchView}
use Rattle.rows.specs.declared.Table.TheVariants.{Mapping, Access}
use Rattle.rows.specs.Rows.{ViewRow, mapping_of, access_of}
use Rattle.image_layout.specs.declared.Layout.{Layout}
use Rattle.image_judge.specs.Faults.{tables_at}
use Rattle.decision_steps.specs.Decision.{view_rows, if_any, Authority, denied, viewed, or_denied, authority, mapping_row, access_row}
use Rattle.decision_find.specs.Found.{Lies, Chosen, rows_of_view, RowsTo}
use Rattle.decision_parts.specs.declared.NamedView.{NamedView}
use Rattle.decision_parts.specs.Types.{Standing}
use Rattle.decision_parts.specs.declared.Authorized.{Authorized}

abbrev pub part : List ℕ → ℕ → ℕ → List ℕ
part w from to = take (to - from) (drop from w)

-- a view that lies within w, and its rows
pub record ViewIn (w : List ℕ) (v : NamedView) : Type 0 where
  pub named : Lies w v.from v.to
  pub lies : RowsTo w v.rows

abbrev pub rows_of : List ℕ → NamedView → List ViewRow
rows_of w v = rows_of_view (part w v.from v.to) w v.rows.rows

-- step 4 of a view's name and the rows of the view table
abbrev pub over_rows : List ℕ → List ViewRow → Authority
over_rows name rs = or_denied NoSuchView (if_any (view_rows name rs)) viewed

-- what a standing says
abbrev pub saying : List ℕ → Standing → Authority
saying w (Err cause) = denied cause
saying w (Ok v) = viewed (rows_of w v)

abbrev pub StandingIn : List ℕ → Standing → Type 0
StandingIn w (Err cause) = Unit {0}
StandingIn w (Ok v) = ViewIn w v

pub record Says (w : List ℕ) (r : Standing) (authority : Authority) : Type 0 where
  pub lies : StandingIn w r
  pub is : saying w r ≡ authority

-- steps 1 to 4 on the tables of a layout: the standing is the authority, and the rows are those chosen
pub record Authorizes (w : List ℕ) (l : Layout) (model : ℕ) (name : List ℕ) (level view : ℕ) (context : List ℕ) (r : Authorized) : Type 0 where
  pub mapping : Chosen Mapping mapping_of w r.mapping (mapping_row (tables_at w l) model name context)
  pub access : Chosen Access access_of w r.access (access_row (tables_at w l) model name level context)
  pub standing : Says w r.standing (authority (tables_at w l) model name level view context)
