pub use Rattle.compiler.specs.Compiled
pub use Rattle.graph_file.specs.GraphFile
