-- Laws of words, which the functions of the module `laws` prove.
-- A definition without a citation is this project's profile.
use Rattle.std.specs.Prelude.{◌≡◌, List}
use Rattle.fax_tool.specs.Grammar.{Text}
use Rattle.fax_tool.specs.Job.{IsFault, IsJob}
use Rattle.fax_tool.specs.Program.{file_name}
use Rattle.fax_tool.specs.declared.args.Job.{Job}
use Rattle.fax_tool.specs.declared.args.WordsFault.TheVariants.{NotACursor, Usage}

-- two jobs have the same command, and name the same file
pub record AskTheSame (job other : Job) : Type 0 where
  pub command : job.command ≡ other.command
  pub file : file_name job ≡ file_name other

-- the words give a job, or are those of no command, or name no cursor: no two of these, and no two
-- jobs that differ
pub record HaveOneAnswer (words : List Text) : Type 0 where
  pub one_job : (job other : Job) → IsJob words job → IsJob words other → AskTheSame job other
  pub job_or_usage : (job : Job) → IsJob words job → ¬ IsFault words Usage
  pub job_or_no_cursor : (job : Job) → IsJob words job → ¬ IsFault words NotACursor
  pub usage_or_no_cursor : IsFault words Usage → ¬ IsFault words NotACursor

abbrev pub WordsHaveOneAnswer : Type 0
WordsHaveOneAnswer = (words : List Text) → HaveOneAnswer words
